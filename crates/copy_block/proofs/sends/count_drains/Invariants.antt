use Rattle.std.proofs.Common.{◌≡◌, ◌≤◌, ◌+◌, drop, length}
use Rattle.std.specs.List.{flat_map}
use Rattle.copy_block.specs.Sends.{drain_of}
use Rattle.copy_block.proofs.sends.count_drains.Given as goal

-- those so far and those that are left are all
abbrev pub invariant-loop-member : goal.invariant-loop-member
invariant-loop-member l = record {
  left : l.count + length (flat_map (drain_of l.layout l.joining) (drop l.member-index l.member-items))
      ≡ length (flat_map (drain_of l.layout l.joining) l.member-items);
  few : l.count ≤ l.member-index;
}
