pub mod Copying
pub mod Feeding
pub mod Joinings
pub mod Sends
pub mod State
pub mod Words
