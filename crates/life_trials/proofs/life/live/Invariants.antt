use Rattle.world_views.specs.Driven.{IsWorld}
use Rattle.world_views.specs.WorldOf.{whole_of}
use Rattle.life_trials.proofs.life.live.Given as goal

-- the world is one
abbrev pub invariant-loop-count : goal.invariant-loop-count
invariant-loop-count g l = IsWorld (whole_of l.cluster.world)
