pub mod Given
pub mod Saving
pub mod Sheeting
pub mod Telling
