pub mod Versions
pub mod Lines
pub mod Watches
pub mod TurnLaws
pub mod Opening
pub mod BatchViews
pub mod Views
