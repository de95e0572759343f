-- A transaction goes forth, to its commit, or back, to its abort, and not both: what is in transit and what was marked
-- is of a transaction that its coordinator took that way. By induction along the run.
pub mod Aborts
pub mod GivenUp
pub mod Marked
pub mod Passed
pub mod Ways
