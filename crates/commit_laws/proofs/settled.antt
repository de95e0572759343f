-- Whoever is decided and kept is settled on each key: each replica has what it needs of it.
-- It stays so at events of others, and all that stands of fates, takeovers, parts and keys stands together.
-- This is the one induction along moments that the laws above are read off.
pub mod All
pub mod Decisions
pub mod First
pub mod Kept
pub mod OfFullCoordinators
pub mod Stand
