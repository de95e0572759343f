use Rattle.std.proofs.Common.{◌≡◌, drop}
use Rattle.std.specs.List.{list_any}
use Rattle.trace_check.specs.Histories.{is_sign}
use Rattle.trace_check.proofs.effects.is_shown.Given as goal

-- the marks that are left tell the answer
abbrev pub invariant-loop-mark : goal.invariant-loop-mark
invariant-loop-mark l =
    list_any (is_sign l.writes l.tx) (drop l.mark-index l.marks) ≡ list_any (is_sign l.writes l.tx) l.marks
