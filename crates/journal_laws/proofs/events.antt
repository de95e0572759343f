-- Each step of a member's rows and their saver is an event or none, and adds its records: form by form of the block
-- (RowEvents), under views (ReplicaEvents), with the saver (SaverEvents), in a step of a host (HostSteps), and along
-- the log of the host (HostEvents), which begins with rows that have nothing pending (FirstRows). What the journal has
-- then stands behind what it gave up (Outlets). Records can be written where all that is asked can (Writable).
pub mod FirstRows
pub mod HostEvents
pub mod HostSteps
pub mod Outlets
pub mod PendingRecords
pub mod ReplicaEvents
pub mod RowEvents
pub mod SaverEvents
pub mod Writable
