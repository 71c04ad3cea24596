-- How sessions go, and what their links do.
pub mod Seen
pub mod Session
