pub mod Asked
pub mod MirrorCommand
pub mod Printing
pub mod Statuses
