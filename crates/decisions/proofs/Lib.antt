pub mod AnswerLaws
pub mod LoadingLaws
