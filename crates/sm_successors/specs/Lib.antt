pub mod Search
pub mod Laws
pub mod Witnesses
