pub mod Settling
pub mod Clearing
pub mod Placed
pub mod Lowering
