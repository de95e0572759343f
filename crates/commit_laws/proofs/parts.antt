-- The parts of an operation that is under way tell how far it has come on each key, and other keys are settled.
-- By cases of what an event does to a key, for each moment. It stands on records, locks and on requests in
-- request_laws.
pub mod Always
pub mod Apart
pub mod Aside
pub mod Asks
pub mod Does
pub mod Events
pub mod Home
pub mod Hosts
pub mod IfRaised
pub mod Kept
pub mod Own
pub mod Performs
pub mod Quiet
pub mod Raised
pub mod Request
pub mod Rests
pub mod Rows
pub mod Sent
pub mod Served
pub mod Serves
pub mod Still
pub mod Takes
pub mod TellsKept
pub mod Turns
