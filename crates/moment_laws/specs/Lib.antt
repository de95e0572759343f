pub mod Moments
pub mod Places
pub mod Parts
pub mod PartSteps
pub mod Found
