pub mod Looking
pub mod Keeping
pub mod Pairs
pub mod Answered
pub mod Alike
mod Whys
