pub mod Faults
pub mod Source
pub mod Sink
pub mod Pieces
pub mod InMemory
pub mod Steady
pub mod Edge
