pub mod Creations
pub mod Disturbing
pub mod ServerCommand
pub mod Statuses
