use Rattle.std.proofs.Common.{◌≡◌, ◌≤◌, ◌+◌, ◌++◌, drop, length}
use Rattle.std.specs.List.{flat_map}
use Rattle.copy_block.specs.Sends.{drain_of}
use Rattle.copy_block.proofs.sends.send_drains.Given as goal

-- what was sent and what is left are all that is to be sent
abbrev pub invariant-loop-member : goal.invariant-loop-member
invariant-loop-member l = record {
  left : l.out.sends ++ flat_map (drain_of l.layout l.joining) (drop l.member-index l.member-items)
      ≡ l.initial.out.sends ++ flat_map (drain_of l.layout l.joining) l.member-items;
  marks : l.out.marks ≡ l.initial.out.marks;
  few : length l.out.sends ≤ length l.initial.out.sends + l.member-index;
}
