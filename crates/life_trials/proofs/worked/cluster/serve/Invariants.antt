use Rattle.world_views.specs.Driven.{IsWorld}
use Rattle.world_views.specs.WorldOf.{whole_of}
use Rattle.life_trials.proofs.worked.cluster.serve.Given as goal

-- the world is one
abbrev pub invariant-loop-at : goal.invariant-loop-at
invariant-loop-at g l = IsWorld (whole_of l.world.world)
