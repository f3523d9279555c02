pub mod Agree
pub mod Witnesses
