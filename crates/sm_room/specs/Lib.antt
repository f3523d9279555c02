pub mod Tables
pub mod Bounds
pub mod Proposing
pub mod Rotating
pub mod Entries
pub mod Pairing
pub mod Parties
pub mod PartiesKept
