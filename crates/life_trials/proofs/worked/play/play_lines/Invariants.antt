use Rattle.world_views.specs.Driven.{IsWorld}
use Rattle.world_views.specs.WorldOf.{whole_of}
use Rattle.life_trials.proofs.worked.play.play_lines.Given as goal

-- the world is one
abbrev pub invariant-loop-line : goal.invariant-loop-line
invariant-loop-line g l = IsWorld (whole_of l.world.world)
