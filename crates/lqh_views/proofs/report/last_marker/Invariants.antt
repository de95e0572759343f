use Rattle.std.proofs.Common.{◌≡◌}
use Rattle.lqh_views.specs.Report.{is_orphaned_marker, last_before}
use Rattle.lqh_views.proofs.report.last_marker.Given as goal

-- what is left leads to the same as all did
abbrev pub invariant-loop-at : goal.invariant-loop-at
invariant-loop-at l =
    last_before (is_orphaned_marker l.full) l.markers l.at ≡ last_before (is_orphaned_marker l.full) l.markers l.before

abbrev pub decreases-loop-at : goal.decreases-loop-at
decreases-loop-at l = l.at
