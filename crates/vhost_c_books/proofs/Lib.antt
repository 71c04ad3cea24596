pub mod Calling
pub mod Keeping
pub mod Whose
pub mod Serving
