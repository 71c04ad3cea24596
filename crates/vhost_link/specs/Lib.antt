pub mod Law
pub mod Cuts
pub mod Ends
pub mod Marks
pub mod Mem
pub mod Pieces
pub mod Rings
pub mod Unix
