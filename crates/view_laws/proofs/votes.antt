-- Who sends what memberships tell of views: memberships and the arbitrator alone, but for confirmations of fences. So
-- it is of each step of a host, by what its blocks say.
pub mod Arbitrators
pub mod EachSignal
pub mod Lists
pub mod Memberships
pub mod NoVotes
pub mod OtherBlocks
pub mod Others
pub mod Parts
