pub mod Tables
pub mod Halves
pub mod Fitted
