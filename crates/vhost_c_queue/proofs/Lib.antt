mod Given
mod Gone
mod Kept
mod Running
