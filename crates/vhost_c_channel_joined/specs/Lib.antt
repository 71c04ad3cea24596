pub mod Clients
pub mod JoinedDisplay
pub mod Wire
pub mod Joined
pub mod Crossing
