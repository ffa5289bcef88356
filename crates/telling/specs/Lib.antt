pub mod Words
pub mod Runs
pub mod Program
