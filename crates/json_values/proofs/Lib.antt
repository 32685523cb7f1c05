pub mod Named
pub mod Removal
