-- The rows of a member under views, a key at a time: each signal is its event there, an installation leaves some
-- holders, and whoever waits for a lock has a request that waits. Induction along the log of the rows' host
-- (AlongLogs).
pub mod AlongLogs
pub mod KeyEvents
pub mod WaitersHaveRequests
pub mod Waits
