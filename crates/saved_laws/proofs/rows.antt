-- What a member's rows have committed up to an epoch that they noted as saved is what the history has.
-- By induction along moments, from the last one at which nobody was decided in a later epoch: there the rows of the
-- member are led to the history so far. It stands on closings, and on what keys are led to in commit_laws.
pub mod All
pub mod Along
pub mod ByStep
pub mod Cells
pub mod Decisions
pub mod Front
pub mod Histories
pub mod Kept
pub mod Later
pub mod Own
pub mod Replicas
pub mod Steps
pub mod Whole
