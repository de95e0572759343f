-- Two cuts: what was closed in one stays so in each greater one, whatever views come between. Stands on the other
-- folders at the moment of the smaller cut, and on how a cut is a moment of its own run (Cuts, TwoRuns).
pub mod All
pub mod ClosedStayClosed
pub mod CountedAreDecided
pub mod Cuts
pub mod EpochsRise
pub mod GoneAbort
pub mod Histories
pub mod KnownAreDone
pub mod Led
pub mod NoTraces
pub mod TwoRuns
