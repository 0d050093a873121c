pub mod Ranges
pub mod Walk
