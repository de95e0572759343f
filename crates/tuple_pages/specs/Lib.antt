pub mod Free
pub mod Places
