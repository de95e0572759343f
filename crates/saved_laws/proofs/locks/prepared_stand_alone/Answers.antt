use Rattle.saved_laws.proofs.locking.Alone.{stand_alone}
use Rattle.saved_laws.proofs.locks.prepared_stand_alone.Goals as goal

pub returns : goal.returns
returns c = stand_alone
