pub mod BehindLemmas
pub mod RefusingLemmas
pub mod RunLemmas
pub mod MadeLemmas
pub mod KindLemmas
pub mod CheckLemmas
pub mod GivenLemmas
