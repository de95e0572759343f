-- Who waits for whom, as the shell asks for it: questions and answers about a command that left something unanswered.
-- Nothing else is under way until that is told.
pub mod Aborted
pub mod Api
pub mod Behind
pub mod HoldersTold
pub mod Hosts
pub mod Rows
pub mod Run
pub mod Sources
