-- What comes before what of one transaction: it begins once, asks for an epoch, is decided once, and is reported
-- behind that. By induction along the run, with what each signal tells of it.
pub mod Begun
pub mod Causal
pub mod Decided
pub mod Facts
pub mod Hosts
pub mod Turns
pub mod Undecided
pub mod Unique
pub mod Verified
pub mod WhoAsks
