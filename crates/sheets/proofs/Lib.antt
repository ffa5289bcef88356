pub mod Standing
pub mod Looked
pub mod Gathered
pub mod Answered
pub mod Alike
