-- Rounds of time: each node's rows have one at a command's request, and waits that stood eight of them are closed.
pub mod ClosedWaits
pub mod NoneClosed
pub mod RowAsks
pub mod Ticks
