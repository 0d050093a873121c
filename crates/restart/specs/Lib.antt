pub mod Writes
pub mod Restart
