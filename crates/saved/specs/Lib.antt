pub mod Layout
pub mod Saved
pub mod Restored
pub mod Claim
