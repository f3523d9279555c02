pub mod Forms
pub mod Accepting
pub mod Checked
pub mod Outcome
pub mod Running
pub mod Steps
pub mod Counted
