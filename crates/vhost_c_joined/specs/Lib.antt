pub mod Device
pub mod Joined
pub mod Judged
pub mod Wire
