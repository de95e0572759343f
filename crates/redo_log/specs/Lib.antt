pub mod LogState
pub mod Latest
pub mod Laws
pub mod Replaying
pub mod Stored
pub mod StoredLaws
