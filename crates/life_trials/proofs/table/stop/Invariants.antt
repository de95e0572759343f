use Rattle.world_views.specs.Driven.{IsWorld}
use Rattle.world_views.specs.WorldOf.{whole_of}
use Rattle.life_trials.proofs.table.stop.Given as goal

-- the world is one
abbrev pub invariant-loop-part : goal.invariant-loop-part
invariant-loop-part l = IsWorld (whole_of l.cluster.world)
