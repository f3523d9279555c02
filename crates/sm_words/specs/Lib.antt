pub mod Jobs
pub mod Tables
pub mod Operands
pub mod Words
pub mod Kept
pub mod Takes
