pub mod Core
pub mod Opening
pub mod Serving
pub mod Sharing
pub mod Accepting
pub mod Calling
pub mod Sized
pub mod Halves
