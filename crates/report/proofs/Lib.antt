-- Laws for the proofs of this crate.
pub mod Putting
mod Decimal
mod Texts
pub mod Determined
pub mod Example
