pub mod Calls
pub mod Change
pub mod Displays
pub mod Requests
pub mod Told
