pub mod BestLemmas
pub mod AcceptSteps
pub mod AcceptEnds
pub mod ReducedLemmas
pub mod LinkLemmas
pub mod LinkSteps
