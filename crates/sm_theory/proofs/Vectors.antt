-- Level vectors: their order, the next one, and listings.
pub mod Determined
pub mod Order
pub mod Listings
pub mod Decisions
pub mod Next
pub mod Witness
