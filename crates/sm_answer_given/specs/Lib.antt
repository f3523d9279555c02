pub mod GivenText
pub mod Taking
pub mod Given
pub mod Refusing
pub mod Chosen
