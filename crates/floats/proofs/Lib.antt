pub mod Fractions
pub mod Ordered
pub mod Furthest
