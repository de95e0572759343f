use Rattle.std.proofs.Common.{◌≡◌, ◌≤◌, ◌+◌, drop, length}
use Rattle.std.specs.Prelude.{filter}
use Rattle.frag_map.specs.Replicas.{is_of_group}
use Rattle.frag_map.proofs.groups.is_whole.Given as goal

-- those so far and those that are left are all
abbrev pub invariant-loop-member : goal.invariant-loop-member
invariant-loop-member l = record {
  left : l.count + length (filter (is_of_group l.shape l.group) (drop l.member-index l.member-items))
      ≡ length (filter (is_of_group l.shape l.group) l.member-items);
  few : l.count ≤ l.member-index;
}
