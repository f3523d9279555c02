pub mod Posets
pub mod Moves
pub mod Kept
