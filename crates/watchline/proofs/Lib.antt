pub mod Batched
pub mod Coming
pub mod InAll
pub mod Onward
pub mod Putting
