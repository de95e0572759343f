-- What is found on the disks of a life is its history up to one epoch. Bits: the mask of members lists their nodes.
-- Latest and Sources: how the slots and the rows of nodes lead to what is restored, of any disks. Nodes: those of a
-- group. Held: a node has rows of its group alone. Copied and Done: what logs say of what is saved, noted and durable,
-- by what was sent (Taken). Left: what was told stands on disks. System: the slot from which a life is restarted, and
-- what it lists. All: the law.
pub mod All
pub mod Bits
pub mod Copied
pub mod Done
pub mod Held
pub mod Latest
pub mod Left
pub mod Nodes
pub mod Sources
pub mod System
pub mod Taken
pub mod Whole
