-- What a pick finds and leaves.
use Rattle.std.specs.Prelude.{ℕ, length, Result, Ok, Err}
use Rattle.world_core.specs.World.{steps_of}
use Rattle.world_views.specs.declared.schedule.Pick.{Pick}
use Rattle.world_views.specs.declared.schedule.Pick.TheVariants.{Take}
use Rattle.world_views.specs.declared.schedule.ScheduleFault.{ScheduleFault}
use Rattle.world_views.specs.declared.schedule.ScheduleFault.TheVariants.{Empty, Gone, NoMemory}
use Rattle.world_views.specs.Driven.{IsWorld}
use Rattle.world_views.specs.World.{Whole}

-- a world, unless memory was wanting
abbrev pub LeavesWorld : Whole → Result (Unit {0}) ScheduleFault → Type 0
LeavesWorld t (Ok done) = IsWorld t
LeavesWorld t (Err (Empty at)) = IsWorld t
LeavesWorld t (Err (Gone at)) = IsWorld t
LeavesWorld t (Err NoMemory) = Unit {0}

-- how many steps the host has made that is to take a signal
abbrev pub steps_before : Whole → Pick → ℕ
steps_before w (Take host from) = length (steps_of w.logs host.0)
steps_before w pick = 0
