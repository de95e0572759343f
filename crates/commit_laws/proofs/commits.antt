-- A key is committed from the last place of its chain to the first, and told where it is committed at all replicas; who
-- is committed stays so, and a commit goes along all replicas. By induction along moments, of all these together. It
-- stands on who has gone forth, and on what owners send.
pub mod EndTurns
pub mod First
pub mod Kept
pub mod Now
pub mod Owners
pub mod OwnersCoordinator
pub mod OwnersHosts
pub mod OwnersTakeover
pub mod Places
pub mod Remain
pub mod RowsEnd
pub mod RowsPrepare
pub mod Step
pub mod WholeAll
pub mod WholeHosts
pub mod WholeTakeover
pub mod WholeTurns
