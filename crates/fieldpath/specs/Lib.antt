pub mod Paths
pub mod Elements
pub mod Scalars
pub mod ElementViews
pub mod Encodable
