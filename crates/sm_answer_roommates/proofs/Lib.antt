pub mod PartyLemmas
pub mod LineLemmas
pub mod PersonLemmas
pub mod WitnessLemmas
pub mod RestLemmas
pub mod RoomListLemmas
