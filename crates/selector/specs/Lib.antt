pub mod Labels
pub mod Requirement
pub mod Grammar
pub mod Fields
pub mod Views
pub mod FaultViews
