pub mod Rising
pub mod Rounds
pub mod ServerViews
pub mod Serving
pub mod Tidies
pub mod Turns
