pub mod OrderLemmas
pub mod SequenceLemmas
pub mod WitnessLemmas
