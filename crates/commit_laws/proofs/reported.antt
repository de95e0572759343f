-- What the client's side reports is so: of a commit it is told, of an abort it is told or infers from a takeover that
-- is complete, which has told of each commit of which members know. By induction along moments, with what is on its way
-- to the client's side. It stands on the fates and on links.
pub mod Aborts
pub mod AbortsEffectless
pub mod Client
pub mod CommitsEffective
pub mod CompleteOthers
pub mod CompleteWords
pub mod Rulings
pub mod Sent
pub mod Takeovers
pub mod Told
