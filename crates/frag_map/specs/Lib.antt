pub mod Fragment
pub mod Groups
pub mod Laws
pub mod Layout
pub mod Replicas
pub mod Shape
