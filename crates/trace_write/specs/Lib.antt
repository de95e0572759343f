pub mod Control
pub mod Own
