mod Out
mod PieceLemmas
pub mod FaultLemmas
pub mod SinkLemmas
