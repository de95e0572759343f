use Rattle.std.proofs.Common.{◌≡◌, ◌≤◌, ◌++◌, drop, length}
use Rattle.qmgr_block.specs.Sets.{without}
use Rattle.qmgr_block.proofs.sets.without.Given as goal

-- those so far and those that are left are all
abbrev pub invariant-loop-member : goal.invariant-loop-member
unfolding without
invariant-loop-member l = record {
  left : l.kept ++ without (drop l.member-index l.member-items) l.others ≡ without l.member-items l.others;
  few : length l.kept ≤ l.member-index;
}
