pub mod AnswerLaws
pub mod MessageLaws
pub mod NextLaws
pub mod QueryLaws
pub mod RunLaws
