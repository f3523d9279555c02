pub mod CouplesKept
pub mod PartiesKept
