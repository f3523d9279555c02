pub mod VectorAnswer
pub mod Stepping
pub mod Spelled
pub mod Remaining
