pub mod Disturbances
pub mod Happens
pub mod ServerViews
