-- In which view hosts stand, and which is the current one: it is the greatest that was installed, no header is above
-- it, and coordinators are fenced at what their members confirm.
-- By induction along moments. It stands on view_laws.
pub mod AtEvents
pub mod ConfirmedFenced
pub mod CurrentFenced
pub mod Greatest
pub mod HeadersLow
pub mod Raised
pub mod RaisedChains
pub mod RaisedGoing
pub mod RaisedKeeps
pub mod Sound
pub mod TxNodes
