pub mod Parts
pub mod Lent
pub mod Answered
pub mod Alike
