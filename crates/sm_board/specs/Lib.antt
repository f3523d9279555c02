pub mod Board
pub mod BoardLaws
pub mod BoardOf
pub mod Walks
pub mod Growing
pub mod Courses
pub mod Witness
