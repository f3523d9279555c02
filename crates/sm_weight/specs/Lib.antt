pub mod Edges
pub mod Lines
pub mod Second
pub mod Spans
pub mod Sizes
pub mod Net
pub mod Lightest
