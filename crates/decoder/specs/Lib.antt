pub mod Wanted
pub mod Members
pub mod Objects
pub mod Pages
pub mod Lines
pub mod OwnTexts
pub mod Views
