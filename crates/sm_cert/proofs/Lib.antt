mod VerdictLaws
mod JudgedLaws
mod CheckLemmas
pub mod YesLines
pub mod YesPairs
mod GroupLemmas
mod ListYes
mod SolveYes
mod SeatYes
mod ReducedYes
mod RotationLines
mod RotationsYes
mod FlowYes
mod WeightLines
mod WeightYes
mod ChosenYes
mod CouplesYes
mod NoneYes
mod WitnessLemmas
mod WeightLemmas
mod OrderLemmas
