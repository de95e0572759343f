pub mod Alike
pub mod Calm
pub mod Known
pub mod Plain
pub mod Resting
pub mod Steps
