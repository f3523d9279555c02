pub mod Keywords
pub mod Layouts
pub mod Seats
pub mod Lefts
pub mod Forms
pub mod Taking
pub mod Laws
