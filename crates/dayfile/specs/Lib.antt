pub mod Faults
pub mod Fields
pub mod Numbers
pub mod Order
pub mod Words
