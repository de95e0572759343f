pub mod Laws
pub mod Redo
pub mod Saver
pub mod State
pub mod Switching
pub mod Walking
pub mod Words
