pub mod orphans
pub mod phases
pub mod replicas
pub mod routes
pub mod strays
pub mod tokens
