-- The proofs of the laws.
pub mod Again
pub mod Applied
pub mod Asked
pub mod Bodies
pub mod Calls
pub mod Encoded
pub mod Fields
pub mod LabelTexts
pub mod Reconciling
pub mod Rest
pub mod Resting
pub mod Rooms
pub mod Sayable
pub mod Saying
pub mod Served
pub mod WholeRest
