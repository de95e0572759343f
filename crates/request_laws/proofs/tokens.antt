-- The operations of a transaction are under way one at a time: the token of one is at its coordinator, under way, or
-- waits at rows. Steps conserve it (Steps, Rows), sums over all hosts follow along moments (SumsOverHosts, Moments).
pub mod Alone
pub mod CoordinatorEvents
pub mod FirstInView
pub mod HostsApart
pub mod Moments
pub mod OtherBlocks
pub mod RowHosts
pub mod Rows
pub mod Steps
pub mod SumsOverHosts
pub mod Turns
