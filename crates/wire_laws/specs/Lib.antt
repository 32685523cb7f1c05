pub mod HeadEnds
pub mod Listings
pub mod OwnedLeavesLaws
pub mod Printed
pub mod Replied
pub mod TurnLines
pub mod WatchLines
pub mod Watched
