use Rattle.world_views.specs.Driven.{IsWorld}
use Rattle.world_views.specs.WorldOf.{whole_of}
use Rattle.life_trials.proofs.table.end.Given as goal

-- the world is one
abbrev pub invariant-loop : goal.invariant-loop
invariant-loop g l = IsWorld (whole_of l.cluster.world)
