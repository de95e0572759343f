use Rattle.std.proofs.Common.{◌≡◌}
use Rattle.world_views.specs.WorldOf.{whole_of}
use Rattle.world_views.proofs.ScheduleLemmas.{IsAt}
use Rattle.world_views.proofs.world.World.schedule.Given as goal

-- the picks so far led here
abbrev pub invariant-loop-pick : goal.invariant-loop-pick
invariant-loop-pick l = record {
  here : IsAt (whole_of l.initial.self) l.picks l.pick-index (whole_of l.self);
  count : l.at ≡ l.pick-index;
}
