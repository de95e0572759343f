-- One membership, and the arbitrator, along the signals that they take and the views that are installed in them: what
-- they have promised, proposed, asked and settled on. The induction goes along their events; each step comes from what
-- a membership's rows may come to, walked once beside the block.
pub mod AlongEvents
pub mod Answers
pub mod ArbitratorGrants
pub mod Outstanding
pub mod Promises
pub mod Proposals
pub mod ProposedSets
pub mod Questions
pub mod RowChanges
pub mod RowsAlike
pub mod SetTests
pub mod Steps
pub mod WaitingPromises
