pub mod StartLemmas
pub mod ListLemmas
pub mod UnderwayLemmas
pub mod RankLemmas
