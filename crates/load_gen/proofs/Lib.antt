pub mod Texts
pub mod Draws
pub mod Loads
