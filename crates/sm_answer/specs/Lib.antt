pub mod Giving
pub mod Lines
pub mod Printing
pub mod Writing
pub mod MatchingLines
