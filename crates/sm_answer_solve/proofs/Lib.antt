pub mod LeftLemmas
pub mod AdmitLemmas
pub mod EndPlaces
pub mod EndLemmas
pub mod OfferLemmas
pub mod SolutionLemmas
