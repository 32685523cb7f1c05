pub mod Appended
pub mod Loops
pub mod Joined
pub mod Placing
