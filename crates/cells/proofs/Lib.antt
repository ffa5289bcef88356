pub mod CellsPart
pub mod Lowest
pub mod Marks
