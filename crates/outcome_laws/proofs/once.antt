-- What happens once at most: a begin, a request for an epoch, a decision, a report. A scale weighs what a host may
-- still send and mark of a kind (Scales); along its log that only falls, but by what it takes (AlongLogs), and nobody
-- takes from a link more than its sender sent (TakenFromLinks).
pub mod AlongLogs
pub mod AsksAreWished
pub mod Begins
pub mod CoordinatorScale
pub mod Counted
pub mod DecidedOnce
pub mod DecidesAndReports
pub mod NobodyElse
pub mod ReportedOnce
pub mod Scales
pub mod TakenFromLinks
