pub mod Spares
pub mod Dummy
