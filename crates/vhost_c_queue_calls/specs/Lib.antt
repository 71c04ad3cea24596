pub mod Calls
pub mod Opening
pub mod QueueHolder
pub mod Recovering
