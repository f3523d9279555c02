pub mod Words
pub mod Shuffle
pub mod Lists
pub mod Made
pub mod Drawn
pub mod Laws
pub mod Witnesses
