pub mod Copied
pub mod Loading
pub mod Whole
pub mod Alike
