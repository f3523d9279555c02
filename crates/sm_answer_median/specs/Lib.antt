pub mod MedianAnswer
pub mod RankCounts
pub mod Found
