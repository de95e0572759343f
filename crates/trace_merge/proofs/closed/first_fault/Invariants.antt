use Rattle.std.proofs.Common.{◌≡◌, drop}
use Rattle.trace_merge.specs.Closed.{first_fault}
use Rattle.trace_merge.proofs.closed.first_fault.Given as goal

-- the logs that are left tell the answer
abbrev pub invariant-loop-at : goal.invariant-loop-at
invariant-loop-at l =
    first_fault l.logs l.cut (drop l.at l.logs) l.at ≡ first_fault l.logs l.cut l.logs 0
