pub mod Found
pub mod Laws
pub mod RedoLaws
pub mod Saving
pub mod Slots
