pub mod Taking
pub mod Trimmed
pub mod Running
