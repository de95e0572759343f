-- The rows of a node that its disk has.
use Rattle.std.specs.List.{list_all}
use Rattle.std.specs.Prelude.{◌≡◌, ◌≤◌, ◌<◌, ℕ, ◌+◌, Bool, true, List, [], ◌∷◌, ◌++◌, length, nat_le, slice_index}
use Rattle.std.specs.Prelude.{Some, Ok, if◌then◌else◌}
use Rattle.host_io.specs.Call.{Call}
use Rattle.redo_log.specs.Replaying.{AreRecords, log_bytes, replayed}
use Rattle.redo_log.specs.Stored.{files_of}
use Rattle.sig_core.specs.Table.{Rows}
use Rattle.sig_core.specs.declared.redo.Redo.{Redo}
use Rattle.sig_core.specs.declared.redo.Redo.TheVariants.{Abort, Commit, Prepare}
use Rattle.sig_core.specs.declared.slots.ControlSlot.{ControlSlot}
use Rattle.sysfile_core.specs.declared.place.TheConstants.{CONTROL_FILE}
use Rattle.sysfile_core.specs.Reading.{control_of_file}
use Rattle.sys_restart.specs.Checkpoint.{rows_of_file}
use Rattle.sys_restart.specs.Files.{Files}
use Rattle.sys_restart.specs.Held.{records_of}
use Rattle.sys_restart.specs.SlotRows.{rows_of_slot}
use Rattle.node_disk.specs.Laws.{HasControl, IsSettledAt}
use Rattle.node_disk.specs.RedoLaws.{IsKept}
use Rattle.node_disk.specs.Slots.{SlotsInUse}

-- A control slot names the rows that these records make, the newest first, of those with which a life began: its
-- checkpoint has those, none of a later epoch than the least, and the redo between its positions is the bytes of the
-- records. No crash changes either.
pub record NamesRows (slot : ControlSlot) (least : ℕ) (start : Rows) (redo : List Redo) (calls : List Call)
    : Type 0 where
  pub clean : IsSettledAt calls slot.ckpt_file
  pub checkpoint : rows_of_file slot.ckpt_file slot.ckpt_size least (files_of calls slot.ckpt_file) ≡ Ok start
  pub records : AreRecords redo
  pub ends : slot.redo_end ≡ slot.redo_start + length (log_bytes redo)
  pub kept :
      (behind : ℕ) → behind < length (log_bytes redo)
      → IsKept calls slot.parity (slot.redo_start + behind) (slice_index (log_bytes redo) behind)

-- the control slot in use stands at its place, and names them
pub record HasRows (s : SlotsInUse) (least : ℕ) (start : Rows) (redo : List Redo) (calls : List Call) : Type 0 where
  pub control : HasControl s calls
  pub named : NamesRows s.control least start redo calls

-- In these files a control slot is in use for its generation, and up to any epoch from this one on its rows are those
-- that these records make of the rows with which the life began. What is so of each of the records is so of each that
-- the files have of its redo.
abbrev pub RestoresRows : ℕ → Files → ControlSlot → Rows → List Redo → Type 0
RestoresRows least files slot start redo =
    (control_of_file slot.generation (files CONTROL_FILE) ≡ Ok (Some slot))
    × ((epoch : ℕ) → least ≤ epoch → rows_of_slot epoch files slot ≡ Ok (replayed epoch start redo))
    × ((test : Redo → Bool) → list_all test redo ≡ true → list_all test (records_of files slot) ≡ true)

-- the records that are saved by a save up to an epoch: none more where the epoch is saved
abbrev pub records_saved : SlotsInUse → ℕ → List Redo → List Redo → List Redo
records_saved s epoch newer redo = if nat_le epoch s.control.saved then redo else newer ++ redo

-- a record commits nothing up to an epoch
abbrev pub IsLater : ℕ → Redo → Type 0
IsLater epoch (Prepare tx fragment key image) = Unit {0}
IsLater epoch (Commit tx at key) = epoch < at
IsLater epoch (Abort tx key) = Unit {0}

-- nor do all of these
abbrev pub AreLater : ℕ → List Redo → Type 0
AreLater epoch [] = Unit {0}
AreLater epoch (redo ∷ older) = IsLater epoch redo × AreLater epoch older
