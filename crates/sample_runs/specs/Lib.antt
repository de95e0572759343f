pub mod Put
pub mod Reached
pub mod Wait
