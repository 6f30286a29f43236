pub mod Answers
pub mod Choices
pub mod FieldAnswers
pub mod StepAnswers
pub mod TableAnswers
