pub mod Recording
pub mod Kept
pub mod Room
pub mod Prepared
pub mod Share
