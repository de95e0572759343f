-- All that hosts know, tell and mark of transactions is true at each moment: who is known to be committed was decided,
-- in that epoch, and who has begun did so. Parts are kept true at each signal and installation (HostSteps, Parts), and
-- moments by induction along a run, as what is true stays so where more is decided (StaysTrue).
pub mod CommitsWereDecided
pub mod DecidedAtOwnHost
pub mod HostSteps
pub mod Hosts
pub mod MarksOfNoOutcome
pub mod MasterTellsNothing
pub mod MembershipTellsNothing
pub mod Moments
pub mod OwnAsks
pub mod Parts
pub mod StaysTrue
pub mod TellsNothing
