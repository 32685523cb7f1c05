pub mod Parts
pub mod Ordered
mod Whole
mod Places
mod Copies
mod Seen
mod Tokens
pub mod Appended
