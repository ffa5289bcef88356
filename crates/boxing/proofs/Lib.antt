pub mod Answered
pub mod Ready
pub mod Alike
