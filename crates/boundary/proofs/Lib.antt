pub mod SequenceLaws
pub mod ClaimLaws
