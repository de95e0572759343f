-- Whoever tells or has of a transaction that it is committed does so of one that its coordinator has committed.
-- By induction along moments: what each block says of commits is what it knows, is told, or has decided.
-- It stands on the walks of blocks and on what is known of decisions in outcome_laws.
pub mod All
pub mod Client
pub mod ClientReports
pub mod Coordinator
pub mod DecidedStay
pub mod Epochs
pub mod Gone
pub mod Grows
pub mod KnownComes
pub mod KnownTold
pub mod OwnTellers
pub mod Parts
pub mod ReportedBegun
pub mod Rows
pub mod Speaks
pub mod Takeover
pub mod Tc
pub mod TellersFull
