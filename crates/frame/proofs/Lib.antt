pub mod Listed
pub mod SoFar
pub mod Naming
pub mod Determined
