pub mod Events
pub mod Laws
pub mod Locking
pub mod Orderly
pub mod Passing
