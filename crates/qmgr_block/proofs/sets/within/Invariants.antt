use Rattle.std.proofs.Common.{◌≡◌, ◌≤◌, ◌++◌, drop, length}
use Rattle.qmgr_block.specs.Sets.{within}
use Rattle.qmgr_block.proofs.sets.within.Given as goal

-- those so far and those that are left are all
abbrev pub invariant-loop-member : goal.invariant-loop-member
unfolding within
invariant-loop-member l = record {
  left : l.kept ++ within (drop l.member-index l.member-items) l.others ≡ within l.member-items l.others;
  few : length l.kept ≤ l.member-index;
}
