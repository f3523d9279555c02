pub mod Walking
pub mod Barred
pub mod Listers
pub mod Kept
pub mod Rests
