use Rattle.epoch_laws.proofs.FallAll.{epochs_never_fall, epochs_of_histories}
use Rattle.epoch_laws.proofs.epoch_laws.epochs_never_fall.Goals as goal
use Rattle.view_laws.proofs.eras.Entries.{stand_in_order}

-- src/epoch_laws.rt:13:1
pub returns-clause-decisions : goal.returns-clause-decisions
returns-clause-decisions c = epochs_never_fall stand_in_order

-- src/epoch_laws.rt:13:1
pub returns-clause-history : goal.returns-clause-history
returns-clause-history c = epochs_of_histories stand_in_order
