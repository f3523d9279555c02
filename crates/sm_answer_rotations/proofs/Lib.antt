pub mod SeatingLemmas
pub mod PairLemmas
pub mod ReduceLemmas
pub mod ShownLemmas
pub mod RotationLemmas
pub mod ConditionLemmas
