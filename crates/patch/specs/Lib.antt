pub mod Signed
pub mod Position
pub mod Record
pub mod Added
pub mod Patch
