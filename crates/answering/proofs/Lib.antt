-- Laws for the proofs of this crate.
mod Asking
