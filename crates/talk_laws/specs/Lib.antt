pub mod Talks
pub mod Reports
