-- In calm each block of a host that may fail does what its plain one does, and so does the host. Nothing stands
-- between the signal and the block (Ease).
pub mod Client
pub mod Coordinator
pub mod Ease
pub mod Epochs
pub mod LoneRounds
pub mod Main
pub mod Parts
pub mod PartsAlike
pub mod Rest
pub mod Resting
pub mod Rounds
pub mod Rows
pub mod SameKinds
pub mod SentAlike
pub mod SentStep
pub mod Shell
