use Rattle.std.proofs.Common.{◌≡◌, drop}
use Rattle.std.specs.List.{list_any}
use Rattle.world_core.specs.History.{is_done}
use Rattle.trace_check.proofs.effects.writes.Given as goal

-- those that are left tell the answer
abbrev pub invariant-loop-op : goal.invariant-loop-op
invariant-loop-op l = list_any (λ op. is_done op.1) (drop l.op-index l.ops) ≡ list_any (λ op. is_done op.1) l.ops
