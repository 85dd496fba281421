pub mod BufferLaws
pub mod SettledLaws
pub mod AnswerLaws
