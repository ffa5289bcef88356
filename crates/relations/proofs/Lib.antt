-- Laws of a relation among the words, for the proofs of this crate and of the makers.
pub mod Ranges
pub mod Placed
pub mod Appended
pub mod Filled
pub mod RowByRow
pub mod Stepping
pub mod Listing
pub mod Linked
pub mod Right
