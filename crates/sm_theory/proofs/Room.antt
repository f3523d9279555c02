-- Roommates: stable partitions and what an odd party excludes.
pub mod Core
pub mod Bridge
pub mod Spots
pub mod Pairing
pub mod Partitions
pub mod Kept
pub mod Witness
