-- The control slots on a node's disk: where there are two, one was saved at an epoch that is durable.
use Rattle.std.specs.Prelude.{◌≡◌, ◌≤◌, ◌<◌, ◌⊎◌, ◌^◌, ℕ, ◌-◌, List, ◌∷◌, length, get_or, Option, None, Some}
use Rattle.host_io.specs.Call.{Call}
use Rattle.host_io.specs.DiskState.{state_of}
use Rattle.host_io.specs.Image.{IsImage}
use Rattle.run_theory.specs.Lists.{IsIn, IsPast}
use Rattle.sig_core.specs.declared.member.Member.{Member}
use Rattle.sig_core.specs.declared.slots.ControlSlot.{ControlSlot}
use Rattle.sig_core.specs.declared.slots.SystemSlot.{SystemSlot}
use Rattle.sig_core.specs.Table.{Rows}
use Rattle.sysfile_core.specs.declared.place.TheConstants.{CONTROL_FILE}
use Rattle.sysfile_core.specs.Reading.{control_at, of_generation}
use Rattle.sys_restart.specs.Places.{usable}
use Rattle.world_core.specs.Start.{Start, made}
use Rattle.world_core.specs.Steps.{HostStep}
use Rattle.world_core.specs.World.{logs_at}
use Rattle.world_views.specs.Driven.{IsSound}
use Rattle.world_views.specs.World.{Whole}
use Rattle.moment_laws.specs.Places.{ldm_of}
use Rattle.request_laws.specs.Blocks.{rows_after}
use Rattle.disk_world.specs.Disks.{Disks, HasGoneOn}
use Rattle.journal_laws.specs.Saver.{IsToldDone}
use Rattle.saved_laws.specs.Behind.{IsDurable}
use Rattle.disk_laws.specs.Laws.{AreSavable}
use Rattle.disk_laws.specs.OnDisk.{KeepsUp}

module _ (start : Start) (member : Member) (generation : ℕ) where
  -- the rows of the member were told that an epoch is durable, or it is
  abbrev pub IsKnownDurable : (ℕ → List HostStep) → ℕ → Type 0
  IsKnownDurable logs epoch = IsToldDone start member (logs (ldm_of start member)) epoch ⊎ IsDurable start logs epoch

  -- one of two slots was saved at such an epoch
  abbrev pub AreTold : (ℕ → List HostStep) → Option ControlSlot → Option ControlSlot → Type 0
  AreTold logs (Some one) (Some other) = IsKnownDurable logs one.saved ⊎ IsKnownDurable logs other.saved
  AreTold logs one other = Unit {0}

  -- of those of the generation in a control file of these bytes
  abbrev pub SlotsAreTold : (ℕ → List HostStep) → List ℕ → Type 0
  SlotsAreTold logs bytes =
      AreTold logs (of_generation generation (usable (control_at 0 bytes)))
      (of_generation generation (usable (control_at 1 bytes)))

  -- whatever a crash leaves of the control file after these calls
  abbrev pub LeavesTold : (ℕ → List HostStep) → List Call → Type 0
  LeavesTold logs calls = (bytes : List ℕ) → IsImage (state_of calls CONTROL_FILE) bytes → SlotsAreTold logs bytes

  -- so it is of the disk of the member's node
  pub record KeepsTold (w : Whole) (disks : Disks) : Type 0 where
    pub calls : List Call
    pub told : get_or disks.told (member.node - 1) None ≡ Some calls
    pub leaves : LeavesTold (logs_at w.logs) calls

-- A host goes on, and its node's disk keeps what it is to keep of it, or fails: where what rows had saved is durable
-- before they save more.
abbrev pub ToldSlotsAreKept : Type 0
ToldSlotsAreKept =
    (start : Start) (member : Member) (before : Rows) (first : SystemSlot) (w t : Whole) (old new : Disks)
    (counts : List ℕ) → IsSound start w → IsIn member (made start) → start.shape.nodes ≤ length old.told
    → start.shape.nodes ≤ length old.slots → HasGoneOn w old new counts t
    → 2 ^ 32 ≤ start.epoch
    → ((log : List HostStep) → IsPast log (logs_at t.logs (ldm_of start member)) → AreSavable start member before log)
    → ((e : HostStep) (log : List HostStep) → IsPast (e ∷ log) (logs_at t.logs (ldm_of start member))
    → (rows_after start member log).saved < (rows_after start member (e ∷ log)).saved
    → IsDurable start (logs_at t.logs) (rows_after start member log).saved)
    → KeepsUp start member before first w old
    → KeepsTold start member first.generation w old → KeepsTold start member first.generation t new
