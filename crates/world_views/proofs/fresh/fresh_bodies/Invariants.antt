use Rattle.std.proofs.Common.{◌≡◌, ◌≤◌, ◌+◌, [], length}
use Rattle.std.specs.Vec.{vec_capacity}
use Rattle.world_core.specs.World.{for_each}
use Rattle.world_views.specs.Hosts.{started}
use Rattle.world_views.proofs.fresh.fresh_bodies.Given as goal

-- the shell's host and those behind it before the next one, and room for the others
abbrev pub invariant-loop-before : goal.invariant-loop-before
invariant-loop-before l = record {
  done : l.bodies.items
      ≡ for_each (l.before + 1)
      (started (record { shape = l.fn.shape; epoch = l.epoch; start_epoch = l.start; rows = l.rows; late = [] }));
  count : length l.bodies.items ≡ l.before + 1;
  room : l.behind + 1 ≤ vec_capacity l.bodies;
}
