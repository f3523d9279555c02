pub mod WalkingLemmas
pub mod SkipLemmas
pub mod BarredLemmas
pub mod NextLemmas
pub mod StartLemmas
pub mod RestLemmas
