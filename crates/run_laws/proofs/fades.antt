-- What is left of a transaction of which nothing more is asked: its records are committed and completed, and none
-- comes again. Each row is completed behind its commit. Stands on carried, routes and ways.
pub mod AbortsFirst
pub mod Completions
pub mod HostParts
pub mod Hosts
pub mod PartSends
pub mod Records
pub mod RowsPass
pub mod Signals
pub mod Steps
