-- The net of weights and conditions, and its cuts.
pub mod Tests
pub mod Whole
pub mod Entries
pub mod Cuts
pub mod Paths
