pub mod Answerable
pub mod Asking
pub mod Owning
pub mod Wants
mod Names
