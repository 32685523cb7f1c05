pub mod Cuts
pub mod Tokens
pub mod LenientReads
