pub mod Numbers
pub mod Flags
pub mod Determined
