-- Stable matchings, rotations and chains over two sides without lists: the proofs of the laws.
pub mod Seats
pub mod Meet
pub mod Cycle
pub mod Rotation
pub mod Dichotomy
pub mod Chain
pub mod Exposure
pub mod Closed
pub mod Correspondence
pub mod Levels
pub mod Weights
