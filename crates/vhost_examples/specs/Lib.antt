pub mod Device
pub mod Loopback
