use Rattle.std.proofs.Common.{◌≡◌, drop}
use Rattle.std.specs.List.{list_any}
use Rattle.trace_check.specs.Answer.{is_want}
use Rattle.trace_check.proofs.compare.tell_want.Given as goal

-- the marks that are left tell the answer
abbrev pub invariant-loop-mark : goal.invariant-loop-mark
invariant-loop-mark l = list_any is_want (drop l.mark-index l.marks) ≡ list_any is_want l.marks
