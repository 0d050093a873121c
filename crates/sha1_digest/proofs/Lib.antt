-- `DigestLaws` has the laws that other crates cite. The others are of the definitions, for this crate's proofs.
pub mod DigestLaws
mod WordLaws
mod ScheduleLaws
mod RoundLaws
mod BlockLaws
mod PaddingLaws
