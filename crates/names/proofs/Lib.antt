pub mod Found
pub mod Decimals
