use Rattle.std.proofs.Common.{◌≡◌, ◌≤◌, length}
use Rattle.std.specs.Vec.{vec_capacity}
use Rattle.world_core.specs.World.{for_each, no_steps}
use Rattle.world_views.proofs.logs.Logs.new.Given as goal

-- the logs of the hosts before the next one, and room for the others
abbrev pub invariant-loop-host : goal.invariant-loop-host
invariant-loop-host l =
    (l.logs.items ≡ for_each l.host no_steps) × (length l.logs.items ≡ l.host) × (l.hosts ≤ vec_capacity l.logs)
