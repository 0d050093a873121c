pub mod Abi
pub mod Answers
pub mod Fields
