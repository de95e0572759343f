pub mod Places
pub mod Deliveries
pub mod Steps
