pub mod Words
pub mod Keys
pub mod Tokens
pub mod Tables
pub mod Repeats
pub mod Enough
pub mod Lines
