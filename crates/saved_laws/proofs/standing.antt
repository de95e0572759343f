-- What a member has written once a walk has passed all rows is a checkpoint (Checkpoint, Walked). Of the events that
-- were followed those until its end keep locks (Locks), from rows at rest, none of a later epoch than is noted
-- (FirstRows, Floors). An older part of the log has some of these events (Parts), with records up to the end of its
-- journal (Journals, Records); and whatever events tell of that part, they commit the same, and their records have the
-- same bytes (Alike).
pub mod Alike
pub mod Checkpoint
pub mod FirstRows
pub mod Floors
pub mod Journals
pub mod Locks
pub mod Parts
pub mod Records
pub mod Walked
