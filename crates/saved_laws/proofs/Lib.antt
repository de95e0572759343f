pub mod behind
pub mod locking
pub mod masters
pub mod others
pub mod rows
pub mod settled
pub mod standing
