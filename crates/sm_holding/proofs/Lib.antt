pub mod HoldingLemmas
pub mod PairLemmas
pub mod GainLemmas
pub mod ChoiceLemmas
