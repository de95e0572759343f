use Rattle.saved_laws.proofs.locking.Keep.{keep_locks}
use Rattle.saved_laws.proofs.locks.members_keep_locks.Goals as goal

pub returns : goal.returns
returns c = keep_locks
