-- No coordinator tells that a transaction is aborted since the cluster is down; only the client's side reports it, of
-- one whose commit it never asked for, so that one is never decided. Induction along moments (NobodyIsTold), and the
-- scales of once.
pub mod ClientAndEpochs
pub mod NeverDecided
pub mod NobodyIsTold
pub mod Parts
pub mod Sends
