pub mod Reading
pub mod Witnesses
