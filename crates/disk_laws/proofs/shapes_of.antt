-- The system slots on a disk are of the cluster's shape: what is read of such, and that each step leaves such. The host
-- that goes on is of another node, or writes other files; or it coordinates, and then writes at the place that isn't in
-- use a slot of the shape of the one in use.
pub mod Kept
pub mod Read
pub mod Written
