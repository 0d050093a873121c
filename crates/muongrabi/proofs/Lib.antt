pub mod AnswerLaws
pub mod FieldLaws
