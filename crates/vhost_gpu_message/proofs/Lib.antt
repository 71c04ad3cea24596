pub mod ScreensAt
pub mod Slices
pub mod WordsAt
