-- What was reported before another transaction was asked for was decided before it, and stands before it in the
-- history. No induction of its own: the events up to one moment, with knowledge and once.
pub mod BeforeInLists
pub mod EventsBefore
pub mod ReportsBeforeAsks
