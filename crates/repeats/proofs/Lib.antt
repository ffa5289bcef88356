pub mod Mixed
pub mod Walked
pub mod Among
pub mod Parts
