-- Of two control slots on a disk one was saved at an epoch that is durable: of what a life begins with, and that each
-- step leaves it so. The host that goes on is of another node, or writes other files; or it has the rows, and then
-- writes a slot at the place that isn't in use. The one in use was saved at an epoch that is durable before the rows
-- note a later one, and that they were told is so before a checkpoint is named.
pub mod Begun
pub mod Kept
pub mod Logs
pub mod Steps
pub mod Written
