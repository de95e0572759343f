pub mod Does
pub mod Portions
