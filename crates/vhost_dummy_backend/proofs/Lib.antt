pub mod Ends
pub mod Handed
pub mod Regions
pub mod Rings
