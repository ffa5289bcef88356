-- Laws for the proofs of this crate, and for those who call it.
pub mod Room
pub mod Grown
mod Dispatch
mod Walk
mod Reached
mod Differing
mod TakenOut
