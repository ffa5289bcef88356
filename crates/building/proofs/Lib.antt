-- Laws for the proofs of this crate.
mod Entities
mod Chained
mod Padding
mod Lexicographic
mod Meeting
mod Rows
mod Standing
mod Determined
