pub mod Partners
pub mod PairsAnswer
pub mod Found
pub mod RegretAnswer
pub mod RegretFound
