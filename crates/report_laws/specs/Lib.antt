pub mod Answered
pub mod Asked
pub mod Growing
pub mod Requested
pub mod Told
