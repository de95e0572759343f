pub mod Ended
pub mod Closed
pub mod Over
pub mod Stays
