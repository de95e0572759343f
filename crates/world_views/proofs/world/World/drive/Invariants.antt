use Rattle.world_views.specs.WorldOf.{whole_of}
use Rattle.world_views.proofs.WorldLemmas.{IsUnderWay, StayUnscheduled}
use Rattle.world_views.proofs.world.World.drive.Given as goal

-- the world is sound, and was driven here, without a schedule
abbrev pub invariant-loop : goal.invariant-loop
invariant-loop g l =
    IsUnderWay (whole_of l.initial.self) (whole_of l.self)
    × StayUnscheduled (whole_of l.initial.self) (whole_of l.self) × (goal.iterator-loop g).can_next l.iterator'
    × (goal.iterator-loop g).is_finite l.iterator'
