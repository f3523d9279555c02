pub mod WritingLemmas
pub mod InputLemmas
pub mod StopLemmas
pub mod BehindLemmas
pub mod SeatLemmas
pub mod RunLemmas
