-- The median of stable matchings.
pub mod Counts
pub mod Places
pub mod Core
pub mod OfSets
pub mod OfVectors
