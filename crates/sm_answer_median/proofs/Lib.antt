pub mod CountLemmas
pub mod MedianLemmas
pub mod LineLemmas
