use Rattle.std.proofs.Common.{◌≡◌, ◌+◌, ◌-◌}
use Rattle.sys_restart.specs.Groups.{first_listed}
use Rattle.sys_restart.proofs.groups.first_listed.Given as goal

-- the nodes that are left lead to what all do
abbrev pub invariant-loop-more : goal.invariant-loop-more
invariant-loop-more l =
    first_listed l.mask l.first (l.first + l.more) (l.count - l.more) ≡ first_listed l.mask l.first l.first l.count
