use Rattle.std.proofs.Common.{length}
use Rattle.redo_log.specs.LogState.{outlet_in}
use Rattle.lqh_saver.proofs.RedoLemmas.{IsNoting}
use Rattle.lqh_saver.proofs.redo.noted.Given as goal

-- what is left leads to the same as all did
abbrev pub invariant-records : goal.invariant-records
invariant-records l = IsNoting l.floor (outlet_in l.log.log) l.epoch l.rest

abbrev pub decreases-records : goal.decreases-records
decreases-records l = length l.rest
