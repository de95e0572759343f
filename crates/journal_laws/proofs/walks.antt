-- A local checkpoint stands for all that was before it (Standing). As its walk begins the rows are kept, as locks were
-- (Locks), so what its records make of them changes nothing; what it gives out doesn't depend on the epoch that it
-- notes (Epochs); and behind its end each event is replayed as it was done (Following).
pub mod Appending
pub mod Epochs
pub mod Following
pub mod Locks
pub mod Standing
