-- Right logs run in the order of views: an event comes in the greatest view that there is by then, and decisions stand
-- in that order. The induction goes along the events of a run; it stands on runs, and on who marks decisions.
pub mod Arrivals
pub mod Causal
pub mod Deciders
pub mod DecisionMarks
pub mod Entries
pub mod Order
pub mod Parts
pub mod Rises
pub mod Shapes
pub mod Sorted
pub mod SoundLogs
pub mod StepMarks
