pub mod RangesLaws
pub mod WalkLaws
