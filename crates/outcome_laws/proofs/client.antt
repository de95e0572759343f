-- The client's side by what it does to the transactions that it has opened (Turns), from the outcomes of its rows that
-- stand beside the block. One that is opened begins, wishes for its commit once, and is reported once; what is reported
-- is what was told.
pub mod KnowsTrue
pub mod ReportsAndWishes
pub mod SendsNoAnswers
pub mod Turns
