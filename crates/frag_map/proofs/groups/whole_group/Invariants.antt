use Rattle.std.proofs.Common.{◌≡◌, ◌-◌}
use Rattle.frag_map.specs.Groups.{whole_from}
use Rattle.frag_map.specs.Shape.{groups}
use Rattle.frag_map.proofs.groups.whole_group.Given as goal

-- the groups that are left tell the answer
abbrev pub invariant-loop-group : goal.invariant-loop-group
invariant-loop-group l =
    whole_from l.shape l.view l.group (groups l.shape - l.group) ≡ whole_from l.shape l.view 0 (groups l.shape)
