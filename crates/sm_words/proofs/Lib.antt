pub mod KeptLemmas
pub mod WordLemmas
pub mod BoundLemmas
pub mod FormLemmas
