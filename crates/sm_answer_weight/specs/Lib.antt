pub mod WeightAnswer
pub mod Found
pub mod Given
pub mod Witnesses
