pub mod Handling
pub mod Core
pub mod Sharing
pub mod Calling
pub mod Halves
