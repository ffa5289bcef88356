-- Laws for the proofs of this crate.
mod Stamping
mod PointRows
mod Made
