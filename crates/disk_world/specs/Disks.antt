-- What the disks of a cluster keep of a step of a host.
use Rattle.std.specs.Prelude.{◌≡◌, ◌≤◌, ◌⊎◌, ℕ, zero, suc, ◌-◌, Bool, true, false, List, ◌∷◌, length, get_or, Option}
use Rattle.std.specs.Prelude.{None, Some}
use Rattle.host_io.specs.Call.{Call}
use Rattle.host_io.specs.Fault.{Rose}
use Rattle.node_disk.specs.Slots.{SlotsInUse}
use Rattle.redo_log.specs.Stored.{files_of}
use Rattle.sig_core.specs.declared.outcome.StopCause.TheVariants.{Disk}
use Rattle.sys_restart.specs.Answers.{count_of}
use Rattle.sysfile_core.specs.Runs.{Runs}
use Rattle.world_core.specs.Start.{Start}
use Rattle.world_core.specs.Steps.{HostStep}
use Rattle.world_core.specs.World.{logs_at}
use Rattle.world_views.specs.Disks.{GoesAlone, last_taken}
use Rattle.world_views.specs.Driven.{IsDriven, IsSound}
use Rattle.world_views.specs.World.{body_at, has_stopped_in, stopped, Whole}
use Rattle.disk_world.specs.Keeping.{Kept, calls_of, kept_of, slots_after}

-- what disks tell, and the slots in use of each
pub record Disks : Type 0 where
  pub told : List (Option (List Call))
  pub slots : List SlotsInUse

abbrev pub disks_with : List (Option (List Call)) → List SlotsInUse → Disks
disks_with told slots = record { told = told; slots = slots }

-- the slots in use behind calls that all succeeded, and behind one that failed
abbrev pub slots_if : Bool → SlotsInUse → Kept → SlotsInUse
slots_if true slots kept = slots_after slots kept
slots_if false slots kept = slots

-- The disk at a place kept something, or a call of it failed. The others are as they were.
pub record HasKept (kept : Kept) (at : ℕ) (old new : Disks) (ok : Bool) : Type 0 where
  pub runs :
      (calls : List Call) (other : SlotsInUse) → get_or old.told at None ≡ Some calls
      → Runs (calls_of (files_of calls) (get_or old.slots at other) kept) calls (get_or new.told at None) ok
  pub used : (other : SlotsInUse) → get_or new.slots at other ≡ slots_if ok (get_or old.slots at other) kept
  pub others : (k : ℕ) → (k ≡ at → ⊥) → get_or new.told k None ≡ get_or old.told k None
  pub others_used :
      (k : ℕ) (other : SlotsInUse) → (k ≡ at → ⊥) → get_or new.slots k other ≡ get_or old.slots k other
  pub many : length new.slots ≡ length old.slots

-- a disk at a place failed, so many times by now
abbrev pub HasFailed : ℕ → List ℕ → List ℕ → ℕ → Type 0
HasFailed at before now count = Rose (get_or before at 0) count × (count ≡ get_or now at 0)

-- the node of a host, and what its disk keeps of the host's last step
abbrev pub node_of : Whole → ℕ → ℕ
node_of w h = (body_at w.bodies h).standing.member.node

abbrev pub kept_in : Whole → ℕ → Kept
kept_in w h = kept_of (body_at w.bodies h) (last_taken w h)

-- a node has a disk, of so many disks of which so many slots are in use
pub record HasDisk (node disks slots : ℕ) : Type 0 where
  pub some : 1 ≤ node
  pub disk : node ≤ disks
  pub slots_of : node ≤ slots

-- a host goes on behind calls that all succeeded, and stops behind one that failed
abbrev pub GoesOn : Bool → Whole → ℕ → ℕ → Whole → Type 0
GoesOn true w h count t = t ≡ w
GoesOn false w h count t = t ≡ stopped w h (Disk count) 1

-- the disk of a host's node kept what it was to keep of the host's last step, or failed, and then the host stopped
pub record HasKeptStep (w : Whole) (h : ℕ) (old new : Disks) (counts : List ℕ) (t : Whole) : Type 0 where
  pub ok : Bool
  pub kept : HasKept (kept_in w h) (node_of w h - 1) old new ok
  pub goes : GoesOn ok w h (count_of counts (node_of w h)) t

-- a host that runs is one of a node which has a disk
pub record KeepsStep (w : Whole) (h : ℕ) (disks : Disks) : Type 0 where
  pub part : 1 ≤ h
  pub runs : has_stopped_in w h ≡ false
  pub has : HasDisk (node_of w h) (length disks.told) (length disks.slots)

-- the shell's host keeps nothing, nor does one that handled no signal, or has stopped
abbrev pub IsNotKept : Bool → Whole → ℕ → Type 0
IsNotKept handled w h = (h ≡ 0) ⊎ ((handled ≡ false) ⊎ (has_stopped_in w h ≡ true))

-- nor does one that made no step
abbrev pub KeepsNothing : Whole → Whole → ℕ → Type 0
KeepsNothing w t h = (h ≡ 0) ⊎ ((logs_at t.logs h ≡ logs_at w.logs h) ⊎ (has_stopped_in t h ≡ true))

-- A host went on, and then the disk of its node kept what it was to keep of the step that it made. Where it keeps
-- nothing, all is as it was.
pub record HasGoneOn (w : Whole) (old new : Disks) (counts : List ℕ) (t : Whole) : Type 0 where
  pub host : ℕ
  pub stepped : Whole
  pub alone : GoesAlone w host stepped
  pub driven : (start : Start) → IsSound start w → IsDriven start w stepped
  pub goes : (start : Start) → IsSound start w → IsDriven start w t
  pub kept :
      (e : HostStep) → logs_at stepped.logs host ≡ e ∷ logs_at w.logs host → KeepsStep stepped host old
      → HasKeptStep stepped host old new counts t
  pub nothing : KeepsNothing w stepped host → (t ≡ stepped) × (new ≡ old)

-- so many steps of hosts, each with what a disk kept of it, led from a world and its disks to others
abbrev pub HaveGoneOn : ℕ → Whole → Disks → Whole → Disks → Type 0
HaveGoneOn zero w old t new = (t ≡ w) × (new ≡ old)
HaveGoneOn (suc steps) w old t new =
    (between : Whole) × ((disks : Disks) × ((counts : List ℕ) × (HaveGoneOn steps w old between disks
    × HasGoneOn between disks new counts t)))

-- steps of hosts led there
abbrev pub WayOn : Whole → Disks → Whole → Disks → Type 0
WayOn w old t new = (steps : ℕ) × HaveGoneOn steps w old t new
