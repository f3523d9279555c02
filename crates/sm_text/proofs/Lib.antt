pub mod LineLemmas
pub mod DigitLemmas
pub mod TokenLemmas
pub mod NumberLemmas
pub mod NameLemmas
pub mod WitnessLemmas
pub mod WriterLemmas
