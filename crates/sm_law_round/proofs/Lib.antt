pub mod BehindLemmas
pub mod RoundLemmas
pub mod WitnessLemmas
