pub mod PairLines
pub mod Reduction
pub mod RotationLines
pub mod RotationAnswer
pub mod GivenLines
pub mod Found
pub mod NoneAnswer
