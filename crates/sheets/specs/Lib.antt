pub mod Answers
pub mod Stands
