-- What is counted as committed was answered: a coordinator, or a takeover, completes a key when each key that the
-- transaction wrote is committed at all its replicas.
-- By induction along moments, view by view. It stands on the drive, key by key, and on what takeovers have gathered.
pub mod Answered
pub mod Coordinator
pub mod Counts
pub mod Events
pub mod Keys
pub mod Orphans
pub mod Rows
pub mod Rulings
pub mod Stays
pub mod Takeover
pub mod Told
pub mod Written
