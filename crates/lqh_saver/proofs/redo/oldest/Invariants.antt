use Rattle.std.proofs.Common.{length}
use Rattle.redo_log.specs.LogState.{outlet_in}
use Rattle.lqh_saver.proofs.RedoLemmas.{IsSeeking}
use Rattle.lqh_saver.proofs.redo.oldest.Given as goal

-- what is left leads to the same as all did
abbrev pub invariant-records : goal.invariant-records
invariant-records g l = IsSeeking (g.R.Rows.state_of l.rows) (outlet_in l.log.log) l.at l.rest

abbrev pub decreases-records : goal.decreases-records
decreases-records g l = length l.rest
