pub mod ListLemmas
pub mod LevelLemmas
pub mod PairsLemmas
pub mod RankLemmas
pub mod RegretLemmas
