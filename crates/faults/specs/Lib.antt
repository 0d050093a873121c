pub mod Language
pub mod Lines
pub mod Findings
