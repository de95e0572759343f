use Rattle.std.proofs.Common.{◌≡◌, drop}
use Rattle.std.specs.List.{list_any}
use Rattle.frag_map.specs.Replicas.{is_of_group}
use Rattle.frag_map.proofs.groups.is_manned.Given as goal

-- the members that are left tell the answer
abbrev pub invariant-loop-member : goal.invariant-loop-member
invariant-loop-member l =
    list_any (is_of_group l.shape l.group) (drop l.member-index l.member-items)
    ≡ list_any (is_of_group l.shape l.group) l.member-items
