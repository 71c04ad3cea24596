pub mod Channel
pub mod Asking
pub mod Halves
pub mod Opened
pub mod Turn
