-- Signals of the plain machine tell of transactions of members that began the life alone: block by block, and by
-- induction along its runs.
pub mod Hosts
pub mod Locks
pub mod Rows
pub mod Signals
pub mod Transactions
pub mod Turns
