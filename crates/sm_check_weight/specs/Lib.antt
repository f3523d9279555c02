pub mod Order
pub mod Gains
pub mod FlowClauses
pub mod ClaimClauses
pub mod Kept
