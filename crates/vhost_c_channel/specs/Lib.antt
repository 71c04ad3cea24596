pub mod Records
pub mod Arguments
pub mod Asking
pub mod Display
pub mod DisplayRecords
pub mod Serving
