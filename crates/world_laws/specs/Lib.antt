pub mod Headline
pub mod ListCalls
pub mod Moves
pub mod Reading
pub mod Reports
pub mod Tasks
pub mod World
