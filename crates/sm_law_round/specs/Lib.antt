pub mod Round
pub mod Witnesses
