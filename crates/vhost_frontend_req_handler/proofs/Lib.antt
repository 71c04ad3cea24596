pub mod Rows
pub mod Answering
pub mod Sharing
pub mod BothHalves
