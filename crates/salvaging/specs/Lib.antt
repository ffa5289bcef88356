pub mod Answers
pub mod Looked
pub mod Listed
pub mod Reasons
