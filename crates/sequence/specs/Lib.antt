pub mod Model
pub mod Sequence
pub mod Footprint
pub mod Claim
pub mod Cuts
pub mod Samples
pub mod Faults
