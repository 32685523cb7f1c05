pub mod Commands
pub mod Numbers
pub mod ReplayProgram
pub mod Resources
pub mod Views
