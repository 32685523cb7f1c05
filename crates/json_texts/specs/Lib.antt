pub mod InOrder
pub mod Laws
pub mod Whole
pub mod Places
pub mod Writing
