-- From the lists of a market to the two sides of Core, and back.
pub mod Places
pub mod Rotation
pub mod Meet
pub mod Chain
pub mod Sets
