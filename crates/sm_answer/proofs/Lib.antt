pub mod AnswerLemmas
pub mod WritingLemmas
pub mod LineLemmas
