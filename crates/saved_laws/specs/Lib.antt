pub mod Behind
pub mod Checkpoints
pub mod Closings
pub mod Copied
pub mod History
pub mod Keys
pub mod Locks
