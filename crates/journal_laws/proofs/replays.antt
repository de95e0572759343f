-- What records are good for. A commit that is logged has its prepare in the log (Replays), so replaying it applies the
-- image that the rows had; that needs nothing of places (PendingLemmas). Where no commit is left out, own rows are what
-- the places have (OwnRows).
pub mod OwnRows
pub mod PendingLemmas
pub mod Replays
