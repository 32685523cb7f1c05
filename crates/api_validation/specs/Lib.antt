pub mod Envelope
pub mod Naming
pub mod Options
pub mod Parameters
pub mod Shapes
pub mod Size
pub mod Views
