pub mod Steps
pub mod Rows
