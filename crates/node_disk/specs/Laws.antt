-- What holds of a node's disk at each moment of a save, and behind it.
use Rattle.std.specs.Prelude.{◌≡◌, ◌≢◌, ◌⊎◌, ◌≤◌, ◌<◌, ℕ, ◌+◌, ◌-◌, ◌^◌, Bool, true, List, length, Option}
use Rattle.std.specs.Prelude.{Some, Result, Ok}
use Rattle.host_io.specs.Call.{Call}
use Rattle.host_io.specs.DiskState.{settled, state_of}
use Rattle.host_io.specs.Image.{IsRecord, LeavesOnly}
use Rattle.redo_log.specs.Stored.{files_of}
use Rattle.sig_core.specs.declared.fault.ReadFault.{ReadFault}
use Rattle.sig_core.specs.declared.piece.Piece.{Piece}
use Rattle.sig_core.specs.declared.slots.ControlSlot.{ControlSlot}
use Rattle.sig_core.specs.declared.slots.SystemSlot.{SystemSlot}
use Rattle.sig_core.specs.declared.walk.Finished.{Finished}
use Rattle.sig_core.specs.Ring.{file_of}
use Rattle.sysfile_core.specs.declared.place.TheConstants.{CONTROL_FILE, SYSTEM_FILE}
use Rattle.sysfile_core.specs.Reading.{control_at, control_of_file, system_at}
use Rattle.sysfile_core.specs.Reading.{system_of_file}
use Rattle.sysfile_core.specs.Runs.{Runs}
use Rattle.sysfile_core.specs.Slots.{IsControlSlot, IsSystemSlot}
use Rattle.sig_core.specs.declared.view.Shape.{Shape}
use Rattle.sys_restart.specs.declared.restored.Restored.{Restored}
use Rattle.sys_restart.specs.Calls.{next_system}
use Rattle.sys_restart.specs.Prepared.{HasSlot, IsReady, IsSettled}
use Rattle.node_disk.specs.Found.{slots_in}
use Rattle.node_disk.specs.Saving.{free_file, name_calls, named_control, next_control, noted_system, rows_calls}
use Rattle.node_disk.specs.Saving.{rows_saved, settle_calls, system_calls, system_saved, walk_calls, walk_named}
use Rattle.node_disk.specs.Slots.{SlotsInUse}

-- whatever a save of rows comes to, a file stays that is neither the control file nor one of the redo of its parity
abbrev pub RowsLeaveFiles : Type 0
RowsLeaveFiles =
    (s : SlotsInUse) (epoch : ℕ) (bytes : List ℕ) (calls after : List Call) (ok : Bool) (file : ℕ)
    → Runs (rows_calls (files_of calls CONTROL_FILE) s epoch bytes) calls (Some after) ok → file ≢ CONTROL_FILE
    → ((position : ℕ) → file ≢ file_of s.control.parity position) → state_of after file ≡ state_of calls file

-- and whatever one of the system slot comes to, each file but that of system slots
abbrev pub SystemLeavesFiles : Type 0
SystemLeavesFiles =
    (s : SlotsInUse) (epoch mask : ℕ) (calls after : List Call) (ok : Bool) (file : ℕ)
    → Runs (system_calls (files_of calls SYSTEM_FILE) s epoch mask) calls (Some after) ok → file ≢ SYSTEM_FILE
    → state_of after file ≡ state_of calls file

-- Whatever the calls of a local checkpoint on its way come to, each file stays but that of checkpoints which isn't in
-- use; and where it is brought into use each but the control file.
pub record CheckpointsLeaveFiles : Type 0 where
  pub written : (s : SlotsInUse) (piece : Piece) (calls after : List Call) (ok : Bool) (file : ℕ)
      → Runs (walk_calls s piece) calls (Some after) ok → file ≢ free_file s
      → state_of after file ≡ state_of calls file
  pub settled : (s : SlotsInUse) (calls after : List Call) (ok : Bool) (file : ℕ)
      → Runs (settle_calls s) calls (Some after) ok → file ≢ free_file s → state_of after file ≡ state_of calls file
  pub named : (s : SlotsInUse) (finished : Finished) (calls after : List Call) (ok : Bool) (file : ℕ)
      → Runs (name_calls (files_of calls CONTROL_FILE) s finished) calls (Some after) ok → file ≢ CONTROL_FILE
      → state_of after file ≡ state_of calls file

-- a slot of a file is in use: this one or that one
abbrev pub IsEither : {S : Type 0} → Result (Option S) ReadFault → S → S → Type 0
IsEither found one other = (found ≡ Ok (Some one)) ⊎ (found ≡ Ok (Some other))

-- nothing of a file is dirty
abbrev pub IsSettledAt : List Call → ℕ → Type 0
IsSettledAt calls file = state_of calls file ≡ settled (files_of calls file)

-- The control slot in use stands at its place, and what is at the other place can be read. No crash changes them.
pub record HasControl (s : SlotsInUse) (calls : List Call) : Type 0 where
  pub kept : IsRecord calls
  pub clean : IsSettledAt calls CONTROL_FILE
  pub place : s.control_at ≤ 1
  pub stands : control_at s.control_at (files_of calls CONTROL_FILE) ≡ Ok (Some s.control)
  pub other : Option ControlSlot
  pub beside : control_at (1 - s.control_at) (files_of calls CONTROL_FILE) ≡ Ok other
  pub in_use : control_of_file s.control.generation (files_of calls CONTROL_FILE) ≡ Ok (Some s.control)

-- a save whose slot can be read back
pub record MaySaveRows (s : SlotsInUse) (epoch : ℕ) (bytes : List ℕ) : Type 0 where
  pub readable : IsControlSlot (next_control s epoch bytes)
  pub serial : s.control.serial < 2 ^ 64 - 1

-- Whatever a crash leaves at any moment of a save of rows, the control slot in use is the old or the new one. Behind it
-- the new one is in use.
abbrev pub AControlSlotStays : Type 0
AControlSlotStays =
    (s : SlotsInUse) (epoch : ℕ) (bytes : List ℕ) (before after : List Call) (ok : Bool)
    → HasControl s before → MaySaveRows s epoch bytes
    → Runs (rows_calls (files_of before CONTROL_FILE) s epoch bytes) before (Some after) ok
    → LeavesOnly after (length before)
    (λ image. IsEither (control_of_file s.control.generation (image CONTROL_FILE)) s.control
    (next_control s epoch bytes))
    × (ok ≡ true → HasControl (rows_saved s epoch bytes) after)

-- a checkpoint whose slot can be read back
pub record MayName (s : SlotsInUse) (finished : Finished) : Type 0 where
  pub readable : IsControlSlot (named_control s finished)
  pub serial : s.control.serial < 2 ^ 64 - 1

-- So it is where a checkpoint is brought into use: at any moment the control slot in use is the old or the new one, and
-- behind it the new one is.
abbrev pub ANamingSlotStays : Type 0
ANamingSlotStays =
    (s : SlotsInUse) (finished : Finished) (before after : List Call) (ok : Bool)
    → HasControl s before → MayName s finished
    → Runs (name_calls (files_of before CONTROL_FILE) s finished) before (Some after) ok
    → LeavesOnly after (length before)
    (λ image. IsEither (control_of_file s.control.generation (image CONTROL_FILE)) s.control
    (named_control s finished))
    × (ok ≡ true → HasControl (walk_named s finished) after)

-- the same of the system slot
pub record HasSystem (s : SlotsInUse) (calls : List Call) : Type 0 where
  pub kept : IsRecord calls
  pub clean : IsSettledAt calls SYSTEM_FILE
  pub place : s.system_at ≤ 1
  pub stands : system_at s.system_at (files_of calls SYSTEM_FILE) ≡ Ok (Some s.system)
  pub other : Option SystemSlot
  pub beside : system_at (1 - s.system_at) (files_of calls SYSTEM_FILE) ≡ Ok other
  pub in_use : system_of_file (files_of calls SYSTEM_FILE) ≡ Ok (Some s.system)

-- whatever a crash leaves at any moment of a save of the system slot, the one in use is the old or the new one
abbrev pub ASystemSlotStays : Type 0
ASystemSlotStays =
    (s : SlotsInUse) (epoch mask : ℕ) (before after : List Call) (ok : Bool)
    → HasSystem s before → IsSystemSlot (noted_system s.system epoch mask)
    → Runs (system_calls (files_of before SYSTEM_FILE) s epoch mask) before (Some after) ok
    → LeavesOnly after (length before)
    (λ image. IsEither (system_of_file (image SYSTEM_FILE)) s.system (noted_system s.system epoch mask))
    × (ok ≡ true → HasSystem (system_saved s epoch mask) after)

-- The slots with which a life begins on a disk of which nothing is dirty are in use so.
abbrev pub SlotsAreInUse : Type 0
SlotsAreInUse =
    (generation : ℕ) (calls : List Call) (s : SlotsInUse) → IsRecord calls → IsSettled calls
    → slots_in generation (files_of calls) ≡ Ok (Some s) → HasControl s calls × HasSystem s calls

-- a disk that is made ready for a life has slots of it, of which the system slot names it
abbrev pub AReadyDiskHasSlots : Type 0
AReadyDiskHasSlots =
    (shape : Shape) (node : ℕ) (r : Restored) (calls : List Call) → IsReady shape node r calls
    → (s : SlotsInUse) × ((slots_in (r.generation + 1) (files_of calls) ≡ Ok (Some s))
    × (s.system ≡ next_system shape r) × HasSlot shape node r (files_of calls) s.control)
