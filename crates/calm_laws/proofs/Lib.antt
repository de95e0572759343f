pub mod known
pub mod lives
pub mod places
pub mod plain_steps
