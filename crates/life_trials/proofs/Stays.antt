-- That a world stays one in the step that driving would take.
use Rattle.std.proofs.Common.{Bool, true, false, subst, sym}
use Rattle.std.specs.Prelude.{IfOk, OnOk, Result, Ok, Err}
use Rattle.sig_core.specs.declared.no_memory.NoMemory.{NoMemory}
use Rattle.world_core.specs.Start.{Start}
use Rattle.world_views.specs.Driven.{IsSound, IsStepped, IsWorld}
use Rattle.world_views.specs.World.{Whole}
use Rattle.world_views.proofs.WorldLemmas.{stays_sound}

pub step_stays : (result : Result Bool NoMemory) (w t : Whole) → IsWorld w
    → ((start : Start) → IsSound start w → IfOk result (λ went. IsStepped start w t went)) → OnOk result (IsWorld t)
step_stays (Ok true) w t is stepped =
    record { start = is.start; sound = stays_sound is.start w t (stepped is.start is.sound) is.sound }
step_stays (Ok false) w t is stepped = subst IsWorld (sym (stepped is.start is.sound).0) is
step_stays (Err fault) w t is stepped = tt
