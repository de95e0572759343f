pub mod Stops
pub mod Behind
pub mod Wholes
pub mod ListLoops
pub mod Found
