pub mod End
pub mod Rule
