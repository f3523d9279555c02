pub mod ReadLemmas
pub mod ChainLemmas
pub mod MoveLemmas
pub mod StepLemmas
pub mod SetLemmas
