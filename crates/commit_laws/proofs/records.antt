-- Which records rows have of a transaction on a key, with which image, and at which members; who holds the lock of the
-- key.
-- By what a signal makes of one record, and by induction along moments.
pub mod Agreed
pub mod AgreedCuts
pub mod AgreedHome
pub mod AgreedImages
pub mod Attended
pub mod Images
pub mod KeptRows
pub mod KeyGoes
pub mod KeyStays
pub mod LockKeeps
pub mod Locks
pub mod MemberKeeps
pub mod Moves
pub mod Once
pub mod Placed
pub mod Replicas
pub mod Tokens
