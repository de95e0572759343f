pub mod Dih
pub mod Laws
pub mod Orders
pub mod State
pub mod Verify
pub mod Words
