use Rattle.redo_log.proofs.OrderLemmas.{undamaged}
use Rattle.redo_log.proofs.laws.records_are_not_damaged.Goals as goal

pub returns : goal.returns
returns c = undamaged
