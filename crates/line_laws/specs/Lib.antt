pub mod Shown
pub mod Following
pub mod Listed
pub mod Labels
pub mod LabelReaders
pub mod Names
