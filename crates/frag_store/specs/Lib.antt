pub mod HeldPlaces
pub mod Leads
pub mod Places
pub mod Store
