-- Laws for the proofs of this crate, of Intersection and of 0→0.
mod Parts
mod Merging
pub mod Turns
pub mod Front
pub mod Standing
pub mod Made
