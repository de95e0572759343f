pub mod closers
pub mod counted
pub mod durable
pub mod settled
pub mod takeover
