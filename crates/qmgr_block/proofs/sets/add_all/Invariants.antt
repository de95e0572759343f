use Rattle.std.proofs.Common.{◌≡◌, ◌≤◌, ◌++◌, drop, length, take}
use Rattle.qmgr_block.proofs.sets.add_all.Given as goal

-- those so far and those that are left are all
abbrev pub invariant-loop-member : goal.invariant-loop-member
invariant-loop-member l = record {
  left : take 8 (l.members ++ drop l.member-index l.member-items) ≡ take 8 (l.initial.members ++ l.member-items);
  few : length l.members ≤ 8;
}
