use Rattle.std.proofs.Common.{◌≡◌, ◌++◌, drop}
use Rattle.trace_merge.specs.Merge.{all_stamped}
use Rattle.trace_merge.proofs.merging.all_stamped.Given as goal

-- those so far and those of the logs that are left are all
abbrev pub invariant-loop-log : goal.invariant-loop-log
invariant-loop-log l = l.stamped.items ++ all_stamped (drop l.log-index l.logs) ≡ all_stamped l.logs
