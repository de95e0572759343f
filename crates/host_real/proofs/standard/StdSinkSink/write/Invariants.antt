use Rattle.std.proofs.Common.{◌≡◌}
use Rattle.host_real.proofs.standard.StdSinkSink.write.Given as goal

-- no fault is counted before the last try
abbrev pub invariant-loop : goal.invariant-loop
invariant-loop g l = l.self.faults ≡ l.fn.self.faults
