pub mod Checking
pub mod Laws
pub mod Yes
pub mod Witnesses
pub mod WitnessesWeight
