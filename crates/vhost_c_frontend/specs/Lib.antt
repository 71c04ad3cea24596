pub mod Awaiting
pub mod Clients
pub mod Incoming
pub mod Session
pub mod Names
