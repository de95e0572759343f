use Rattle.std.proofs.Common.{◌≡◌, ◌++◌, drop}
use Rattle.trace_merge.specs.Merge.{stamped_from, stamped_log}
use Rattle.trace_merge.proofs.merging.add_log.Given as goal

-- those so far and those that are left are all
abbrev pub invariant-loop-step : goal.invariant-loop-step
invariant-loop-step l =
    l.stamped.items ++ stamped_from l.log.host l.step (drop l.step l.steps)
    ≡ l.initial.stamped.items ++ stamped_log l.log
