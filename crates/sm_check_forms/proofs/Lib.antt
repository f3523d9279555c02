pub mod KeywordNumbers
pub mod KeywordWords
pub mod KeywordLayouts
pub mod LayoutLemmas
pub mod LeftLemmas
pub mod TakingLemmas
pub mod SeatLemmas
