pub mod closings
pub mod lives
pub mod near
pub mod plain
