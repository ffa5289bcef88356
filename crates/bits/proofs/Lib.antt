pub mod Room
pub mod Counts
pub mod Windows
pub mod Patching
pub mod Determined
