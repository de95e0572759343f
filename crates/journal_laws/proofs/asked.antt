-- Whatever is asked of rows can be written, where it can of what the shell is asked: an operation comes from the client
-- (ClientAsks) to a coordinator (CoordinatorAsks), which gives it the number of its transaction, and from there along
-- the chain of its row (RowsAsk). One induction over what all blocks send (Parts, Along).
pub mod AllAsk
pub mod ClientAsks
pub mod CoordinatorAsks
pub mod Parts
pub mod RowsAsk
pub mod WellAsked
