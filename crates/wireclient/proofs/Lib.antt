pub mod Chunked
mod Closing
pub mod Determined
pub mod EachReads
pub mod Prefixes
pub mod Heads
mod Checking
pub mod Leading
pub mod Lengthened
pub mod Printed
pub mod ReadBack
pub mod Requests
pub mod TooLong
