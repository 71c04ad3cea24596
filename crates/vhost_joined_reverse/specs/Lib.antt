pub mod Joined
pub mod Sides
pub mod Lockstep
