pub mod Requests
pub mod Tables
