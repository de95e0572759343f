-- What a disk that fails comes to.
use Rattle.std.proofs.Common.{◌≡◌, ℕ, ◌≤◌, List, true, false, refl, subst, sym}
use Rattle.std.specs.Prelude.{OnErr, OnOk, Result, Ok, Err}
use Rattle.sig_core.specs.declared.log.HostLog.{HostLog}
use Rattle.sig_core.specs.declared.no_memory.NoMemory.{NoMemory}
use Rattle.sig_core.specs.declared.outcome.StopCause.TheVariants.{Disk}
use Rattle.sig_core.specs.declared.signal.Body.TheVariants as body
use Rattle.sig_core.specs.declared.signal.host.HostSignal.TheVariants.{Closed}
use Rattle.node_views.specs.Row.{stopping}
use Rattle.world_core.specs.Hosts.{hosts}
use Rattle.world_core.specs.Start.{Start}
use Rattle.world_core.specs.World.{logs_at}
use Rattle.world_views.specs.Driven.{HaveGrown, IsDriven, IsSound, IsWorld}
use Rattle.world_views.specs.Unscheduled.{AreUnscheduled}
use Rattle.world_views.specs.World.{asking, body_at, has_stopped_in, IsThere, stopped, Whole}
use Rattle.world_views.proofs.FailDriven.{stop_ready}
use Rattle.world_views.proofs.ScheduleLemmas.{running_low, stopped_driven}
use Rattle.world_views.proofs.StepDriven.{grown_itself}
use Rattle.world_views.proofs.UnscheduledLemmas.{entered_unscheduled}
use Rattle.world_views.proofs.WorldLemmas.{runs_there, there_in}

-- a host that runs is there
pub runs_is_there : (w : Whole) (h : ℕ) → IsWorld w → has_stopped_in w h ≡ false → IsThere w h
runs_is_there w h is runs =
    there_in (hosts is.start) w h is.sound.right.sizes (running_low is.start w h is.sound runs)

-- a host whose disk failed stops
pub disk_driven : (result : Result (Unit {0}) NoMemory) (w t : Whole) (h count : ℕ) → 1 ≤ h
    → has_stopped_in w h ≡ false
    → OnOk result (t ≡ stopped w h (Disk count) 1) → (start : Start) → IsSound start w
    → OnOk result (IsDriven start w t)
disk_driven (Ok done) w t h count some runs same start sound =
    subst (IsDriven start w) (sym same) (stopped_driven start w h (Disk count) 1 sound some runs tt)
disk_driven (Err fault) w t h count some runs same start sound = tt

-- which no schedule has it do, where nodes have disks
pub disk_unscheduled : (result : Result (Unit {0}) NoMemory) (w t : Whole) (h count : ℕ) → 1 ≤ h
    → has_stopped_in w h ≡ false
    → OnOk result (t ≡ stopped w h (Disk count) 1) → (start : Start) → IsSound start w
    → AreUnscheduled true start (logs_at w.logs)
    → OnOk result (AreUnscheduled true start (logs_at t.logs))
disk_unscheduled (Ok done) w t h count some runs same start sound was =
    let low = running_low start w h sound runs in
    subst (λ (u : Whole). AreUnscheduled true start (logs_at u.logs)) (sym same)
    (entered_unscheduled true start sound.given w 1 (asking w h (body.Host (Closed (Disk count))))
    (stopping (body_at w.bodies h) (Disk count))
    (stop_ready start sound.given w sound.right h low (runs_there start w h sound low runs) some (Disk count) tt
    sound.given sound.right) (λ asks. refl) was)
disk_unscheduled (Err fault) w t h count some runs same start sound was = tt

-- logs that are what they were have grown, by nothing
pub kept_grown : (result : Result (Unit {0}) NoMemory) (w : Whole) (logs : List HostLog) → OnErr result (logs ≡ w.logs)
    → (start : Start) → IsSound start w → OnErr result (HaveGrown start (logs_at w.logs) (logs_at logs))
kept_grown (Ok done) w logs same start sound = tt
kept_grown (Err fault) w logs same start sound =
    subst (λ (ls : List HostLog). HaveGrown start (logs_at w.logs) (logs_at ls)) (sym same)
    (grown_itself start sound.given w sound.right)
