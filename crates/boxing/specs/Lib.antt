pub mod Answers
pub mod Ready
