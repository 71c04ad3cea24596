pub mod DeviceQueue
pub mod Number
pub mod Taking
pub mod Using
pub mod Walking
