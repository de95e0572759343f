-- A transaction that is carried out: from the step that sends its first commits (Begins) it stays so, turn by turn and
-- step by step, until each of its keys is committed and completed. By induction along the run. Stands on circle.
pub mod Ahead
pub mod Begins
pub mod CommitBegins
pub mod FirstCommits
pub mod Next
pub mod Out
pub mod Turn
