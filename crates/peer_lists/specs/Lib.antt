pub mod Laws
pub mod Machine
pub mod Peers
pub mod Waiting
