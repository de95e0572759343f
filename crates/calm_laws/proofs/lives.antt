-- Lives in calm: how they begin, what comes to a host in them, and what is steady from one quiet moment to the next.
pub mod Arrivals
pub mod Asked
pub mod Beginnings
pub mod CalmSignals
pub mod Events
pub mod FirstMembers
pub mod FirstRing
pub mod SoundBodies
pub mod Steady
pub mod WellFormed
