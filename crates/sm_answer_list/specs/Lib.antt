pub mod ListAnswer
pub mod Started
pub mod Underway
