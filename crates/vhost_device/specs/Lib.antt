pub mod Answers
pub mod Reached
