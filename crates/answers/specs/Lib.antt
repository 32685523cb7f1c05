pub mod Status
pub mod WatchFrom
pub mod Views
