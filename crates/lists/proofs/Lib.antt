pub mod Bounds
mod ByName
pub mod Joining
pub mod NextPages
pub mod Reading
pub mod Tokens
pub mod Values
mod Turns
