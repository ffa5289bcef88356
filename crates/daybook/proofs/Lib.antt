pub mod Alike
pub mod InTurn
pub mod ListCases
pub mod MakeCases
