-- An operation ends in an answer, in a refusal for want of room or of time, or in a wait for a lock; before that no
-- end of its transaction is wished for. Turn by turn at its coordinator, and step by step at each host.
pub mod Answered
pub mod Asks
pub mod ComesTo
pub mod EarlyNodes
pub mod EarlyRun
pub mod EarlySteps
pub mod EarlyTurns
pub mod HeldUp
pub mod TellsOnce
pub mod TellsSince
pub mod TurnTells
