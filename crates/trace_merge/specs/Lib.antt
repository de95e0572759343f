pub mod Closed
pub mod Merge
pub mod RunLaw
