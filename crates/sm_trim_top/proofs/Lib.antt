pub mod TakingLemmas
pub mod RunLemmas
