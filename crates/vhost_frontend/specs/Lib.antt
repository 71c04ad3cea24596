pub mod MemoryContext
pub mod Whole
pub mod Turn
