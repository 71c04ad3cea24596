pub mod Covered
mod Examples
pub mod Followed
pub mod Freed
pub mod Marked
pub mod Passing
pub mod Ran
pub mod Refused
pub mod Running
pub mod Stepped
pub mod Touching
pub mod Translating
