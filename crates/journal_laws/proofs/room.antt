-- A journal's bytes fit in its ring: those that are used and those that are kept free for the ends of prepared records
-- never exceed it (Room), whatever the rows do (RowsKeepRoom). Induction along the log of the rows' host (HaveRoom).
pub mod HaveRoom
pub mod Room
pub mod RowsKeepRoom
pub mod Sizes
