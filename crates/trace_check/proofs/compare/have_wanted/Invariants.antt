use Rattle.std.proofs.Common.{◌≡◌, drop}
use Rattle.trace_check.specs.Answer.{any_wants}
use Rattle.trace_check.proofs.compare.have_wanted.Given as goal

-- the logs that are left tell the answer
abbrev pub invariant-loop-log : goal.invariant-loop-log
invariant-loop-log l = any_wants (drop l.log-index l.logs) ≡ any_wants l.logs
