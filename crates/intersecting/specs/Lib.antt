pub mod Inner
pub mod Reads
