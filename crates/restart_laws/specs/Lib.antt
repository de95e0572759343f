pub mod HandedOn
pub mod Lived
pub mod Restart
pub mod Told
