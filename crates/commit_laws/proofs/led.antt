-- Each key is led, decision by decision, to what the history makes of it, and so the history of right logs is legal and
-- rows at rest follow it.
-- By induction along a run whose end is fixed, replica by replica. It stands on all that stands at each moment.
pub mod AllLed
pub mod Along
pub mod Applied
pub mod Begins
pub mod CutLaws
pub mod CutsLegal
pub mod Decisions
pub mod Entries
pub mod Events
pub mod FairEvents
pub mod Histories
pub mod Keys
pub mod Moves
pub mod Owed
pub mod Replicas
pub mod RestingRows
pub mod Rows
