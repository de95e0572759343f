use Rattle.std.proofs.Common.{◌≡◌, length, take}
use Rattle.sig_core.specs.Chain.{members_by}
use Rattle.sig_core.proofs.chain.Chain.members.Given as goal

-- the members that were gone through are in the list
abbrev pub invariant-loop-at : goal.invariant-loop-at
invariant-loop-at l =
    (length l.members ≡ l.at)
    × (l.members ≡ members_by (take l.at l.self-inside.nodes) (take l.at l.self-inside.starts))
