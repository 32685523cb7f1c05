pub mod Digits
pub mod GeneratedNames
pub mod Moments
pub mod MomentLaws
pub mod Uids
pub mod UidLaws
pub mod GeneratedNameLaws
