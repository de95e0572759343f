pub mod Coordinator
pub mod Laws
pub mod State
pub mod Views
pub mod Words
