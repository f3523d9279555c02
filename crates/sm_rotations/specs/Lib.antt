pub mod Marking
pub mod Footings
pub mod Graph
pub mod Following
pub mod Chaining
pub mod Walking
pub mod Ordering
pub mod Noting
