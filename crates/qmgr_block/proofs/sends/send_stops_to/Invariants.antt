use Rattle.std.proofs.Common.{◌≡◌, ◌≤◌, ◌+◌, ◌++◌, drop, length, map}
use Rattle.qmgr_block.specs.Propose.{stop_of}
use Rattle.qmgr_block.proofs.sends.send_stops_to.Given as goal

-- what was sent and what is left are all that is to be sent
abbrev pub invariant-loop-member : goal.invariant-loop-member
invariant-loop-member l = record {
  left : l.out.sends ++ map (stop_of l.cause) (drop l.member-index l.member-items)
      ≡ l.initial.out.sends ++ map (stop_of l.cause) l.member-items;
  marks : l.out.marks ≡ l.initial.out.marks;
  few : length l.out.sends ≤ length l.initial.out.sends + l.member-index;
}
