pub mod JudgingLemmas
pub mod LinewiseLemmas
pub mod SeatPairLemmas
pub mod WalkLemmas
pub mod AnswerLemmas
