pub mod SeatedLemmas
pub mod StepLemmas
pub mod RouteLemmas
