pub mod Names
pub mod Decimals
