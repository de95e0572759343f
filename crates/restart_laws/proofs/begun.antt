-- The rows with which a life begins behind what was restored. The start has the entries of each group's map, one map
-- behind the other; put into one map they give at each key what the only map gives that has it (Entries), and that is
-- the map of the key's group (Groups). A member begins with those of its group, and so with its group's map (Rows).
-- Behind a life they are the rows of its history (History).
pub mod Entries
pub mod Groups
pub mod History
pub mod Rows
