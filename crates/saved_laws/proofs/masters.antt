-- What masters of checkpoints have heard of members, by induction along moments (Statement, All): of rows that they
-- saved an epoch, and of blocks of epochs that they noted one as durable. Each answer comes from the block that may
-- tell it (Answers), so who is counted has told (Steps, Voices, Known); and what is ordered, or marked, is so in the
-- phase behind the step (Orders, Hosts). What rows are ordered to save was closed (Closed). Who tells that an epoch is
-- durable has marked so, by recursion along the log of its host (DoneSteps, Done).
pub mod All
pub mod Answers
pub mod Closed
pub mod Done
pub mod DoneSteps
pub mod Hosts
pub mod Known
pub mod Orders
pub mod Statement
pub mod Steps
pub mod Told
pub mod Voices
