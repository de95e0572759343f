use Rattle.world_views.specs.Driven.{IsWorld}
use Rattle.world_views.specs.WorldOf.{whole_of}
use Rattle.life_trials.proofs.client.Client.go_on.Given as goal

-- the world is one
abbrev pub invariant-loop-count : goal.invariant-loop-count
invariant-loop-count l = IsWorld (whole_of l.cluster.world)
