pub mod Called
pub mod QueueHolding
pub mod Recovered
pub mod Values
