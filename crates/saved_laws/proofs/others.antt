-- What members don't commit, don't log, and don't save. Who is in a chain is of the group of its key (Held), and so a
-- member commits nothing of other keys (Stay), and its journal has no record of them (Unlogged). Whatever epoch follows
-- has a number of 64 bits (Numbers), by induction along moments of all members and masters (Low); so what was closed,
-- and is saved, is below the last one (Below). Nor is it one between that from which the life started and the first of
-- the life (OfLife).
pub mod Below
pub mod Held
pub mod Low
pub mod Numbers
pub mod OfLife
pub mod Stay
pub mod Unlogged
