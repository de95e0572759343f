pub mod Causes
pub mod Kinds
pub mod Live
pub mod OpenedAfter
pub mod ReplicaLaws
pub mod Ways
