pub mod Names
pub mod Printed
pub mod Lines
pub mod Putting
pub mod Witnesses
