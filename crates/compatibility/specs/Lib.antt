pub mod EmptyRanges
pub mod Matching
pub mod AsBefore
