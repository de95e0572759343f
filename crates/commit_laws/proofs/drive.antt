-- In each view each key of a transaction is committed once at most and completed once at most, by its coordinator or by
-- the takeover, and as many were answered as were sent.
-- By induction along moments, on counts of one key; the phases of a coordinator and of a takeover tell how far it is.
pub mod Coordinators
pub mod Counts
pub mod Foreign
pub mod Gathered
pub mod Hosts
pub mod Idle
pub mod Kinds
pub mod Led
pub mod Lists
pub mod Moments
pub mod Once
pub mod Onwards
pub mod Ordered
pub mod Own
pub mod Parts
pub mod Rows
pub mod Ruled
pub mod Rulings
pub mod Stages
pub mod States
pub mod Steps
pub mod Takeover
pub mod Tasks
pub mod Turns
