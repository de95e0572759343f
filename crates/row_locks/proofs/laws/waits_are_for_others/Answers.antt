use Rattle.row_locks.proofs.AheadLemmas.{ahead_is_other, asked_ahead}
use Rattle.row_locks.proofs.laws.waits_are_for_others.Goals as goal

pub returns-clause-ahead : goal.returns-clause-ahead
returns-clause-ahead c = ahead_is_other

pub returns-clause-queued : goal.returns-clause-queued
returns-clause-queued c = asked_ahead
