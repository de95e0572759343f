use Rattle.std.proofs.Common.{◌≡◌, ◌++◌, drop}
use Rattle.tc_block.proofs.commit.shared.Given as goal

-- what is held so far and what is left are all
abbrev pub invariant-loop-op : goal.invariant-loop-op
invariant-loop-op l = l.shared.items ++ drop l.op-index l.ops ≡ l.ops
