pub mod Trails
pub mod TrailsKept
pub mod Exposure
pub mod ExposureKept
pub mod Noting
pub mod Witnesses
pub mod Accepted
pub mod Rooms
