pub mod LoadingLaws
pub mod NumberLaws
