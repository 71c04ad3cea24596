pub mod Forms
pub mod Turns
pub mod Whole
