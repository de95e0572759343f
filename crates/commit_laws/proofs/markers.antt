-- Each commit at a member is marked, or acknowledged, and so a trace of it stays until the client's side knows of it.
-- By induction along moments; what a step of rows makes of a marker, key by key.
pub mod All
pub mod AppliedCommits
pub mod AppliedMarks
pub mod Lists
pub mod Moves
pub mod Rows
pub mod Steps
pub mod Traces
