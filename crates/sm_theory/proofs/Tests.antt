-- Witnesses: the definitions on instances that were made by hand.
pub mod Pairs
pub mod Markets
pub mod Seats
