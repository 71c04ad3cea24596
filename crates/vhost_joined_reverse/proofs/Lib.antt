pub mod Messages
pub mod Served
pub mod Taken
pub mod Exchange
pub mod Stepping
pub mod Handing
pub mod Lockstep
