-- Where rows save a later epoch, what they had saved before is durable: by induction along moments (Statement, All).
-- What rows have saved is durable, or it is the last order of each full member, which has gone on with the first epoch
-- of a later checkpoint (Members, Reached). So a master that begins a run, closes it or goes on with one (MasterSteps,
-- Resumption, Phases, Masters) knows that what was saved before its epoch is durable, and rows save what it saves alone
-- (Rows, Saves, Orders). What members and masters know as durable is durable (Tells, Durable).
pub mod All
pub mod ButLast
pub mod Durable
pub mod MasterSteps
pub mod Masters
pub mod Members
pub mod Orders
pub mod Phases
pub mod Reached
pub mod Resumption
pub mod RowSteps
pub mod Rows
pub mod Saves
pub mod Statement
pub mod Tells
