pub mod Entries
pub mod Growth
pub mod Places
