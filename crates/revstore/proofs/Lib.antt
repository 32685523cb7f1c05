pub mod Behind
pub mod Latest
pub mod ObjectCache
