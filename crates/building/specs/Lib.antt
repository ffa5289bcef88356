-- What the contracts of Build say.
pub mod Sets
pub mod Cells
