pub mod Answered
pub mod Sample
