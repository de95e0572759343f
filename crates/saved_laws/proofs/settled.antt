-- What is so where an epoch is closed, told at the moment behind the closing: the current view is as it was
-- (ClosingViews), and whoever is decided up to the epoch, goes forth later, and doesn't abort, is done there
-- (DoneAtClosings). So what is final is committed at each replica by then (ClosedOnes); and a commit that rows take
-- (TakenCommits), before the closing or behind it, is of one that is done there, and so was applied (CommittedOnes).
pub mod ClosedOnes
pub mod ClosingViews
pub mod CommittedOnes
pub mod DoneAtClosings
pub mod TakenCommits
