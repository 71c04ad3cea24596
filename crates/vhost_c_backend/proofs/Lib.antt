pub mod Keeping
pub mod Offering
pub mod Owning
pub mod Placing
pub mod Serving
pub mod Three
pub mod Told
