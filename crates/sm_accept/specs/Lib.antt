pub mod Accepting
pub mod Bests
pub mod Linking
pub mod Reducing
