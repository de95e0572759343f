use Rattle.world_core.specs.Start.{Start}
use Rattle.world_views.specs.Driven.{IsSound, IsWorld}
use Rattle.world_views.specs.WorldOf.{whole_of}
use Rattle.trace_check.proofs.AllLemmas.{IsAt}
use Rattle.trace_check.proofs.play.play_all.Given as goal

-- the world is one, and from whichever start it was sound it has done the steps so far
abbrev pub invariant-loop-place : goal.invariant-loop-place
invariant-loop-place l = record {
  world : IsWorld (whole_of l.world);
  here : (start : Start) → IsSound start (whole_of l.initial.world)
      → IsAt start l.logs l.run l.place-index (whole_of l.initial.world) (whole_of l.world);
}
