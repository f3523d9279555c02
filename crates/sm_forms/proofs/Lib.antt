pub mod FormLemmas
pub mod NameLemmas
