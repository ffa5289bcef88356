-- Laws for the proofs of this crate.
mod Tests
mod InnerRows
mod Made
