-- How the transactions of commands end: a commit ends in a commit, a rollback in an abort at the client's request, and
-- of each just one reply tells. Turn by turn, and along the log of its home.
pub mod AbortAnswered
pub mod AbortFirst
pub mod AbortSteps
pub mod AbortTurns
pub mod CommitFirst
pub mod Committed
pub mod EndsOnce
pub mod EndsWell
pub mod FairRows
pub mod Firm
pub mod FirmAtQuiet
pub mod FirmHosts
pub mod LivingReplies
pub mod LivingRows
pub mod LivingTurns
pub mod RepliesLive
pub mod Reported
pub mod RolledSteps
pub mod RolledTurns
