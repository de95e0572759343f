use Rattle.world_views.specs.Driven.{IsWorld}
use Rattle.world_views.specs.WorldOf.{whole_of}
use Rattle.life_trials.proofs.table.all_rows.Given as goal

-- the world is one
abbrev pub invariant-loop-node : goal.invariant-loop-node
invariant-loop-node g l = IsWorld (whole_of l.cluster.world)
