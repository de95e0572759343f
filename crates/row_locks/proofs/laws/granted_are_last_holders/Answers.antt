use Rattle.row_locks.proofs.GrantedLemmas.{released_first, unwaited_first}
use Rattle.row_locks.proofs.laws.granted_are_last_holders.Goals as goal

pub returns-clause-release : goal.returns-clause-release
returns-clause-release c = released_first

pub returns-clause-unwait : goal.returns-clause-unwait
returns-clause-unwait c = unwaited_first
