-- Laws for the proofs of this crate.
mod Taken
mod Before
mod Counting
mod Seeking
mod Corners
mod Links
mod Uses
mod Held
mod Said
mod BookCells
mod Answered
mod Alike
