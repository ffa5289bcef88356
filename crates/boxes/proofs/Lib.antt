pub mod Growing
pub mod Tested
