use Rattle.std.proofs.Common.{◌≡◌, ◌≤◌, ◌++◌, drop, length}
use Rattle.qmgr_block.specs.Suspects.{closed_of}
use Rattle.qmgr_block.proofs.suspects.closed_of.Given as goal

-- those so far and those that are left are all
abbrev pub invariant-loop-member : goal.invariant-loop-member
unfolding closed_of
invariant-loop-member l = record {
  left : l.kept ++ closed_of l.closed (drop l.member-index l.member-items) ≡ closed_of l.closed l.member-items;
  few : length l.kept ≤ l.member-index;
}
