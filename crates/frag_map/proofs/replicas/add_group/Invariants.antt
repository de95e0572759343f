use Rattle.std.proofs.Common.{◌≡◌, ◌≤◌, ◌++◌, drop, length, take}
use Rattle.std.specs.Prelude.{filter}
use Rattle.frag_map.specs.Replicas.{is_of_group}
use Rattle.frag_map.proofs.replicas.add_group.Given as goal

-- those so far and those that are left are all
abbrev pub invariant-loop-member : goal.invariant-loop-member
invariant-loop-member l = record {
  left : take 8 (l.replicas ++ filter (is_of_group l.shape l.group) (drop l.member-index l.member-items))
      ≡ take 8 (l.initial.replicas ++ filter (is_of_group l.shape l.group) l.member-items);
  few : length l.replicas ≤ 8;
}
