pub mod CalledOnce
pub mod OneCall
pub mod Running
pub mod Joining
