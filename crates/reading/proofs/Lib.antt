pub mod Writing
pub mod RowCases
pub mod NumberCases
pub mod Signed
pub mod Alike
