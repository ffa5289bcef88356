-- Laws for the proofs of this crate.
pub mod Going
mod Reasoned
pub mod Answered
pub mod Example
