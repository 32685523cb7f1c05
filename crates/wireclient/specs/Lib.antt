pub mod Request
pub mod Reply
pub mod Reads
pub mod Views
pub mod LineLaws
