pub mod WordLaws
pub mod PutLaws
pub mod ReadLaws
pub mod ClaimLaws
