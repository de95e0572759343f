use Rattle.world_views.specs.Driven.{IsWorld}
use Rattle.world_views.specs.WorldOf.{whole_of}
use Rattle.life_trials.proofs.worked.cluster.tell_replies.Given as goal

-- the world is one
abbrev pub invariant-loop : goal.invariant-loop
invariant-loop l = IsWorld (whole_of l.world.world)
