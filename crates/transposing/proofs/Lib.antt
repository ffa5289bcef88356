-- Laws for the proofs of this crate.
mod Counts
mod Running
mod Fills
mod FillsAll
mod Picks
mod Marked
mod Turning
mod Made
