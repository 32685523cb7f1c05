pub mod Printing
pub mod Turns
pub mod Pieces
pub mod Syncs
