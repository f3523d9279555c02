pub mod Held
pub mod Holding
pub mod PairsKept
pub mod Chosen
pub mod Gains
