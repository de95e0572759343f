-- Every epoch that is given is below 2^64, where the first one of the life is: masters of checkpoints order no others
-- (MasterLow), so nodes give no others (DihLow). One induction over what all blocks send and mark (Parts, AllLow).
pub mod AllLow
pub mod DihLow
pub mod Low
pub mod MasterLow
pub mod Parts
