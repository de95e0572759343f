pub mod api
pub mod coordinator
pub mod hosts
pub mod rows
