pub mod ReadingLemmas
pub mod GivenLemmas
pub mod ChosenLemmas
