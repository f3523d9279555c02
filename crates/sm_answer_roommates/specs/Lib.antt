pub mod Parties
pub mod RoomAnswer
pub mod Found
pub mod Walking
pub mod Witnesses
pub mod RestAnswer
pub mod Resting
pub mod RoomListAnswer
