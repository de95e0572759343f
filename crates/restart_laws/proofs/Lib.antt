pub mod begun
pub mod groups
pub mod handed
pub mod lived
pub mod telling
