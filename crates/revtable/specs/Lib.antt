pub mod Asked
pub mod Decoded
pub mod FaultViews
pub mod Kept
pub mod Rows
pub mod Spans
