pub mod HeadEnds
pub mod Lengths
pub mod Lines
pub mod Pieces
pub mod Sizes
