pub mod Applying
pub mod Rest
pub mod Resting
pub mod Said
pub mod Settling
pub mod SummaryType
