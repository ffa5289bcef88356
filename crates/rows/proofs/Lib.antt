pub mod Walked
pub mod Cells
pub mod Free
pub mod Determined
