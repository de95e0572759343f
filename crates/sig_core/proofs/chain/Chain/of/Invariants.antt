use Rattle.std.proofs.Common.{◌≡◌, length, take}
use Rattle.sig_core.specs.Chain.{members_by}
use Rattle.sig_core.proofs.chain.Chain.of.Given as goal

-- the replicas that were gone through are in the arrays
abbrev pub invariant-loop-replica : goal.invariant-loop-replica
invariant-loop-replica l =
    (l.len ≡ l.replica-index)
    × (length l.nodes ≡ 8)
    × (length l.starts ≡ 8)
    × (members_by (take l.replica-index l.nodes) (take l.replica-index l.starts) ≡ take l.replica-index l.replica-items)
