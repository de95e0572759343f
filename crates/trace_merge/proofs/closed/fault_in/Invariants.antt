use Rattle.std.proofs.Common.{◌≡◌, drop}
use Rattle.trace_merge.specs.Closed.{fault_from}
use Rattle.trace_merge.proofs.closed.fault_in.Given as goal

-- the steps that are left tell the answer
abbrev pub invariant-loop-step : goal.invariant-loop-step
invariant-loop-step l =
    fault_from l.logs l.cut l.at l.log l.step (drop l.step l.steps) ≡ fault_from l.logs l.cut l.at l.log 0 l.steps
