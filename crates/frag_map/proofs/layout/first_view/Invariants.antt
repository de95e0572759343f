use Rattle.std.proofs.Common.{◌≡◌, length}
use Rattle.frag_map.specs.Layout.{members}
use Rattle.frag_map.proofs.layout.first_view.Given as goal

-- the members before the next one
abbrev pub invariant-loop-before : goal.invariant-loop-before
invariant-loop-before l = (l.full ≡ members l.before) × (length l.full ≡ l.before)
