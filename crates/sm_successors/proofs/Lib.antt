pub mod SearchLemmas
pub mod NextLemmas
