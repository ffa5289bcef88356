pub mod Fetches
pub mod Patches
