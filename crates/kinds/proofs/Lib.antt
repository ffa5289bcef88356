pub mod Determined
pub mod Lowest
