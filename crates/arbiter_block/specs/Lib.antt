pub mod Arbiter
pub mod Laws
pub mod Sets
pub mod Words
