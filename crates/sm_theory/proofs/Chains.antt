-- The laws of chains of rotations and their closed sets, over the lists of a market.
pub mod Lattice
pub mod Rotations
pub mod Sets
pub mod Places
pub mod Marks
pub mod Marking
pub mod Links
pub mod Holders
pub mod Best
pub mod NoneBelow
pub mod Length
