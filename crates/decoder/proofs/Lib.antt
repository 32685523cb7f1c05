pub mod Joined
pub mod Texts
pub mod Listed
pub mod OwnTexts
