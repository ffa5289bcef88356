pub mod Refusals
pub mod Lowest
