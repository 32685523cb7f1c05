pub mod Orders
pub mod Ascending
pub mod Texts
pub mod KeyFields
pub mod Names
pub mod Shown
pub mod Encodable
pub mod ElemTexts
