-- What is true of a transaction that goes on, of one key: the operation goes round from its coordinator to the
-- replicas of the key and back, and what the coordinator, each replica and each signal have of it fits together. By
-- induction along the run, an event at a time (Steps): at its coordinator (Going), or at a replica (Key). Stands on
-- tokens (one signal of it at a time) and on key_laws (what an event is to one key).
pub mod Circle
pub mod DecidedSettled
pub mod Going
pub mod Kept
pub mod KeyMoves
pub mod KeySends
pub mod KeySteps
pub mod OthersStay
pub mod RowCases
pub mod RowsEvents
pub mod SettledAlong
pub mod Steps
pub mod Turns
pub mod VerifiedSettled
pub mod View
pub mod ViewOf
