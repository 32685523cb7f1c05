pub mod Entries
pub mod Rests
pub mod Readings
pub mod Required
