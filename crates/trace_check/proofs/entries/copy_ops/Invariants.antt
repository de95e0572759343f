use Rattle.std.proofs.Common.{◌≡◌, ◌++◌, drop}
use Rattle.trace_check.proofs.entries.copy_ops.Given as goal

-- those so far and those that are left are all
abbrev pub invariant-loop-op : goal.invariant-loop-op
invariant-loop-op l = l.copied ++ drop l.op-index l.ops ≡ l.ops
