pub mod Causes
pub mod Reasons
pub mod Sample
pub mod TurnedAway
pub mod Waited
