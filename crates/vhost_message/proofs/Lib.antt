pub mod HeaderFlags
pub mod KnownFlags
pub mod LongRecords
pub mod Numbers
pub mod Regions
