pub mod Session
pub mod Refusing
pub mod Beginning
pub mod Replies
pub mod Concluding
pub mod Settling
pub mod Fits
