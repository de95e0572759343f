use Rattle.std.proofs.Common.{◌≡◌, ℕ, ◌-◌, length}
use Rattle.std.specs.Prelude.{take}
use Rattle.world_core.specs.Entries.{ops_of}
use Rattle.trace_check.specs.Histories.{log_of}
use Rattle.trace_check.proofs.entries.ops_of.Given as goal

-- the older steps that are left tell the answer
abbrev pub invariant-loop-behind : goal.invariant-loop-behind
invariant-loop-behind l =
    (h : ℕ) → ops_of l.tx (log_of h (take (length l.past - l.behind) l.past)) ≡ ops_of l.tx (log_of h l.past)
