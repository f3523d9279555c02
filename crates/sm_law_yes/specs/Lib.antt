pub mod Reordered
pub mod YesIsRight
pub mod Exactly
pub mod Correspond
pub mod OrderIsFree
pub mod Witnesses
