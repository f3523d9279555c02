pub mod Tried
pub mod Listing
pub mod Stood
pub mod ChosenKept
pub mod Solving
pub mod ListsKept
pub mod ReducedKept
pub mod Regrets
