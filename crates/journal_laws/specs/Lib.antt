pub mod Asked
pub mod Checkpoints
pub mod Events
pub mod Journal
pub mod Laws
pub mod Saver
pub mod Walks
