-- What becomes of a transaction: it goes on, commits or aborts, and whoever speaks of that speaks truly. By induction
-- along moments, of what is spoken, of what takeovers rule, and of fates together. It stands on who has gone forth and
-- who is lost.
pub mod AbortedFinals
pub mod BegunNone
pub mod Cases
pub mod Committed
pub mod CoordinatorUnasked
pub mod Decided
pub mod FinalsForth
pub mod Forth
pub mod Going
pub mod LostDoomed
pub mod LostStays
pub mod Moves
pub mod Rows
pub mod RowsUnasked
pub mod SpokenAside
pub mod SpokenCoordinator
pub mod SpokenEvents
pub mod SpokenHost
pub mod SpokenOwn
pub mod SpokenRows
pub mod SpokenRuling
pub mod SpokenTakeover
pub mod SpokenWords
pub mod Stay
