pub mod Borders
pub mod Dates
pub mod LastDigits
pub mod LastSuch
pub mod MomentTexts
pub mod Rounds
pub mod UidDigits
