pub mod Links
pub mod Cells
pub mod Sought
pub mod Answers
