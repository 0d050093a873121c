pub mod PositionLaws
pub mod RecordLaws
pub mod PartLaws
pub mod AddedLaws
pub mod PatchLaws
pub mod Examples
