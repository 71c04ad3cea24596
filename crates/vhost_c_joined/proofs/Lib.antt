mod Becoming
mod Mapped
mod Said
mod Stated
pub mod Pieces
pub mod Brought
pub mod Channels
pub mod Told
pub mod Lasting
pub mod Answering
pub mod Denying
pub mod Sizes
pub mod Offering
pub mod Replying
pub mod Joining
pub mod Fitting
pub mod Taken
pub mod Closing
pub mod Waited
pub mod Running
pub mod Starting
pub mod Settling
pub mod Judging
pub mod Verdicts
pub mod Giving
pub mod Written
pub mod Serving
