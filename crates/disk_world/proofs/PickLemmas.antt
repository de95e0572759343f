-- What a pick leaves is a world.
use Rattle.std.specs.Prelude.{Result, Ok, Err}
use Rattle.world_core.specs.Start.{Start}
use Rattle.world_views.specs.declared.schedule.ScheduleFault.{ScheduleFault}
use Rattle.world_views.specs.declared.schedule.ScheduleFault.TheVariants.{Empty, Gone, NoMemory}
use Rattle.world_views.specs.Driven.{IsSound, IsWorld}
use Rattle.world_views.specs.Schedule.{LeavesRight}
use Rattle.world_views.specs.World.{Whole}
use Rattle.world_views.proofs.WorldLemmas.{driven_world}
use Rattle.disk_world.specs.Picking.{LeavesWorld}

pub leaves_world : (w t : Whole) (result : Result (Unit {0}) ScheduleFault) → IsWorld w
    → ((start : Start) → IsSound start w → LeavesRight start w t result) → LeavesWorld t result
leaves_world w t (Ok done) is right = driven_world w t right is
leaves_world w t (Err (Empty at)) is right = driven_world w t right is
leaves_world w t (Err (Gone at)) is right = driven_world w t right is
leaves_world w t (Err NoMemory) is right = tt
