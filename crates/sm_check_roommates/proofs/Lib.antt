pub mod PersonLemmas
pub mod CoupleLemmas
pub mod PartyLemmas
