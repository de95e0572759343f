-- Disks from one life to the next: new ones (New), and those that a crash leaves (Cut): their files have bytes
-- (CutBytes), and a control slot is in use (CutControl). What disks tell behind a cut of their power (CutRecords).
pub mod Cut
pub mod CutBytes
pub mod CutControl
pub mod CutRecords
pub mod New
