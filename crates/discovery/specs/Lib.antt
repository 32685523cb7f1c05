pub mod Groups
pub mod Documents
pub mod OpenApi
pub mod Paths
pub mod Writing
