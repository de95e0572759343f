use Rattle.std.proofs.Common.{◌≡◌, ◌+◌, ◌++◌, [], length}
use Rattle.lqh_views.specs.Address.{addressed_behind}
use Rattle.lqh_views.proofs.address.move_addressed.Given as goal

-- those that were moved, and what those that are left lead to, are all
abbrev pub invariant-loop-send : goal.invariant-loop-send
invariant-loop-send l = record {
  all : l.to.sends ++ addressed_behind l.view l.passed l.from.sends
      ≡ addressed_behind l.view l.before l.initial.from.sends;
  many : length l.to.sends + length l.from.sends ≡ length l.initial.from.sends;
  marks : l.to.marks ≡ [];
  from_marks : l.from.marks ≡ l.initial.from.marks;
}

abbrev pub decreases-loop-send : goal.decreases-loop-send
decreases-loop-send l = length l.from.sends
