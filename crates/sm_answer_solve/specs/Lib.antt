pub mod Solution
pub mod Ends
pub mod Admitting
pub mod Offering
pub mod SolutionGiven
