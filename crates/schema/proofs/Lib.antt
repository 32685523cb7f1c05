pub mod KeyNames
pub mod Lists
pub mod Members
pub mod Metadata
pub mod ObjectTests
pub mod Places
pub mod Shapes
pub mod Steps
