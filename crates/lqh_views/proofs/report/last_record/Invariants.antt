use Rattle.std.proofs.Common.{◌≡◌}
use Rattle.lqh_views.specs.Report.{is_orphaned_record, last_before}
use Rattle.lqh_views.proofs.report.last_record.Given as goal

-- what is left leads to the same as all did
abbrev pub invariant-loop-at : goal.invariant-loop-at
invariant-loop-at g l =
    last_before (is_orphaned_record l.full) (g.R.Rows.state_of l.rows).pending l.at
    ≡ last_before (is_orphaned_record l.full) (g.R.Rows.state_of l.rows).pending l.before

abbrev pub decreases-loop-at : goal.decreases-loop-at
decreases-loop-at g l = l.at
