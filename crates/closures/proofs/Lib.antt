pub mod Turns
pub mod Literals
pub mod Exact
pub mod Rowing
