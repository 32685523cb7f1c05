pub mod BothEnds
pub mod Leading
pub mod Listable
pub mod Progress
pub mod Telling
