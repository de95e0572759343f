pub mod Random
pub mod Wave
pub mod Load
pub mod Left
