use Rattle.row_locks.proofs.KeepingLemmas.{keep_orderly, lock-left}
use Rattle.row_locks.proofs.keeping_laws.keeping_stays_orderly.Goals as goal

pub returns-clause-orderly : goal.returns-clause-orderly
returns-clause-orderly c = keep_orderly

pub returns-clause-each : goal.returns-clause-each
returns-clause-each c locks stays key = lock-left stays locks key
