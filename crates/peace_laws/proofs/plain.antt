-- The plain machine that a life in peace mirrors: its logs, its events, what is told of it, and that where nothing is
-- under way no transaction is counted or waits for completion. By induction along its runs.
pub mod Answers
pub mod Calm
pub mod CompletionTurns
pub mod Completions
pub mod CountsNobody
pub mod Events
pub mod Logs
pub mod NoneCompletes
pub mod NoneCounted
