use Rattle.std.proofs.Common.{◌≡◌, length}
use Rattle.world_views.proofs.RouteLemmas.{all_on}
use Rattle.world_views.proofs.route.dispatch.Given as goal

-- what is left to send leads to the same links as all of it did
abbrev pub invariant-loop-alloc : goal.invariant-loop-alloc
invariant-loop-alloc l =
    all_on l.network l.made l.from l.stamp l.host.standing l.outs.sends
    ≡ all_on l.initial.network l.made l.from l.stamp l.host.standing l.initial.outs.sends

abbrev pub decreases-loop-alloc : goal.decreases-loop-alloc
decreases-loop-alloc l = length l.outs.sends
