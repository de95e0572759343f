-- What the log of a host says that the disk of its node has kept.
use Rattle.std.specs.Prelude.{◌≡◌, ◌⊎◌, ℕ, Bool, true, false, List, [], ◌∷◌, Some}
use Rattle.sig_core.specs.declared.mark.Mark.{Mark}
use Rattle.sig_core.specs.declared.mark.Mark.TheVariants.{Stopped}
use Rattle.sig_core.specs.declared.outcome.StopCause.TheVariants.{Disk}
use Rattle.sig_core.specs.declared.slots.SystemSlot.{SystemSlot}
use Rattle.std.specs.List.{list_any}
use Rattle.world_core.specs.Start.{Start}
use Rattle.world_core.specs.Steps.{HostStep}
use Rattle.world_views.specs.Machine.{after, stops_by}
use Rattle.node_disk.specs.Saving.{noted_system}
use Rattle.disk_world.specs.Keeping.{DurableAt, kept_of}

-- the host stopped since its node's disk failed
abbrev pub is_disk_stop : Mark → Bool
is_disk_stop (Stopped (Disk count)) = true
is_disk_stop mark = false

abbrev pub without_newest : List HostStep → List HostStep
without_newest [] = []
without_newest (e ∷ log) = log

abbrev pub kept_if : HostStep → List HostStep → Bool → List HostStep
kept_if e log true = without_newest log
kept_if e log false = e ∷ log

-- What the disk has kept of a host: all of its log; where the host stopped since the disk failed, all but the step of
-- which the disk kept nothing, and the stop.
abbrev pub kept_part : List HostStep → List HostStep
kept_part [] = []
kept_part (e ∷ log) = kept_if e log (list_any is_disk_stop e.step.marks)

module _ (start : Start) (h : ℕ) where
  -- The newest step of a log told its node's disk that an epoch is durable at these full members. One by which the host
  -- stopped told it nothing.
  abbrev pub NotesNow : HostStep → List HostStep → ℕ → ℕ → Type 0
  NotesNow e log epoch mask =
      (stops_by e.step.marks ≡ false)
      × (kept_of (after start h (e ∷ log)) (Some e.step.taken) ≡ DurableAt epoch mask)

  -- a step of the log did
  abbrev pub WasNoted : List HostStep → ℕ → ℕ → Type 0
  WasNoted [] epoch mask = ⊥
  WasNoted (e ∷ log) epoch mask = NotesNow e log epoch mask ⊎ WasNoted log epoch mask

  -- the system slot is the first, or of an epoch that was noted
  abbrev pub IsFirstOrNoted : List HostStep → SystemSlot → SystemSlot → Type 0
  IsFirstOrNoted log first slot =
      (slot ≡ first) ⊎ (WasNoted log slot.epoch slot.mask × (slot ≡ noted_system first slot.epoch slot.mask))
