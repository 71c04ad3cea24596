mod Windows
mod Handing
pub mod Adding
pub mod Joining
pub mod Sending
pub mod AtOnce
pub mod Receiving
pub mod Talking
pub mod Came
pub mod Fronts
pub mod Messages
pub mod Data
pub mod Bodies
pub mod States
pub mod Errors
pub mod Once
pub mod Failing
pub mod Reading
pub mod More
pub mod Replying
pub mod Bare
pub mod Asking
pub mod Handed
pub mod Replies
pub mod Whole
pub mod Sized
pub mod Serving
pub mod Running
mod Fronting
mod Waited
