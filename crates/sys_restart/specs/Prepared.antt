-- Disks that are ready for a life of their cluster, and what a stop leaves while they are made so.
use Rattle.std.specs.Prelude.{◌≡◌, ◌≤◌, ◌<◌, ◌⊎◌, ℕ, ◌+◌, ◌==◌, List, length, Option, None, Some, Result, Ok, if◌then◌else◌}
use Rattle.std.specs.FinMap as finmap
use Rattle.std.specs.List.{AllByRecursion}
use Rattle.frag_map.specs.Shape.{groups}
use Rattle.host_io.specs.Call.{Call}
use Rattle.host_io.specs.DiskState.{settled, state_of}
use Rattle.host_io.specs.Image.{IsRecord, LeavesOnly}
use Rattle.host_io.specs.declared.limits.TheConstants.{FILES}
use Rattle.redo_log.specs.Stored.{files_of}
use Rattle.lcp_store.specs.Laws.{IsWordOf}
use Rattle.sig_core.specs.Table.{Rows}
use Rattle.sig_core.specs.declared.fault.ReadFault.{ReadFault}
use Rattle.sig_core.specs.declared.key.TheConstants.{KEY_BYTES}
use Rattle.sig_core.specs.declared.slots.ControlSlot.{ControlSlot}
use Rattle.sig_core.specs.declared.slots.SystemSlot.{SystemSlot}
use Rattle.sig_core.specs.declared.value.TheConstants.{VALUE_BYTES}
use Rattle.sig_core.specs.declared.view.Shape.{Shape}
use Rattle.sysfile_core.specs.declared.place.TheConstants.{CONTROL_FILE, SYSTEM_FILE}
use Rattle.sysfile_core.specs.Owner.{owner_of}
use Rattle.sysfile_core.specs.Reading.{control_at, control_of_file, of_generation, system_of_file}
use Rattle.sys_restart.specs.declared.restored.Restored.{Restored}
use Rattle.sys_restart.specs.Calls.{next_system, rows_of_node}
use Rattle.sys_restart.specs.Files.{Disks, Files}
use Rattle.sys_restart.specs.Latest.{latest_on}
use Rattle.sys_restart.specs.Places.{control_places}
use Rattle.sys_restart.specs.Restored.{restored_of}
use Rattle.sys_restart.specs.SlotRows.{rows_of_slot}

-- nothing of a disk is dirty, so that a crash leaves it as it reads
abbrev pub IsSettled : List Call → Type 0
IsSettled calls = (file : ℕ) → file < FILES → state_of calls file ≡ settled (files_of calls file)

-- the control slot at the place where the next one isn't written
abbrev pub kept_control : ℕ → List ℕ → Result (Option ControlSlot) ReadFault
kept_control generation bytes =
    if (control_places generation bytes).free == 0 then control_at 1 bytes else control_at 0 bytes

-- What stands there isn't damaged, and is none of the next generation.
abbrev pub HasKept : ℕ → List ℕ → Type 0
HasKept generation bytes =
    (slot : Option ControlSlot)
    × ((kept_control generation bytes ≡ Ok slot) × (of_generation (generation + 1) slot ≡ None))

-- the keys and the values are such as a checkpoint has
abbrev pub AreStorable : Rows → Type 0
AreStorable rows =
    AllByRecursion (λ row. IsWordOf 1 KEY_BYTES row.0 × IsWordOf 0 VALUE_BYTES row.1) (finmap.entries rows)

-- a node's disk may be prepared for the life behind what was restored
pub record MayPrepare (shape : Shape) (node : ℕ) (r : Restored) (calls : List Call) : Type 0 where
  pub kept : IsRecord calls
  pub settled : IsSettled calls
  pub control : HasKept r.generation (files_of calls CONTROL_FILE)
  pub rows : AreStorable (rows_of_node shape node r)

-- files have the control slot with which a node begins the life behind what was restored, and under it its rows; its
-- control file is its own
pub record HasSlot (shape : Shape) (node : ℕ) (r : Restored) (files : Files) (slot : ControlSlot) : Type 0 where
  pub in_use : control_of_file (r.generation + 1) (files CONTROL_FILE) ≡ Ok (Some slot)
  pub serial : slot.serial ≡ 1
  pub saved : slot.saved ≡ r.epoch
  pub start : slot.redo_start ≡ 0
  pub end : slot.redo_end ≡ 0
  pub has_rows : rows_of_slot r.epoch files slot ≡ Ok (rows_of_node shape node r)
  pub owner : owner_of (files CONTROL_FILE) ≡ Some node

-- a node's disk is prepared for that life
abbrev pub HasPrepared : Shape → ℕ → Restored → List Call → Type 0
HasPrepared shape node r calls =
    IsSettled calls × ((slot : ControlSlot) × HasSlot shape node r (files_of calls) slot)

-- and the life is named on it
abbrev pub IsReady : Shape → ℕ → Restored → List Call → Type 0
IsReady shape node r calls =
    HasPrepared shape node r calls
    × (system_of_file (files_of calls SYSTEM_FILE) ≡ Ok (Some (next_system shape r)))

-- the files of all disks, of which that of one node has others
abbrev pub with_files : Disks → ℕ → Files → Disks
with_files disks node files other = if other == node then files else disks other

-- Whatever a crash leaves of a node's disk at any moment since a record, a restart from it and from the other disks is
-- the same as before.
abbrev pub KeepsRestart : Shape → ℕ → Restored → List Call → List Call → Type 0
KeepsRestart shape node r before after =
    IsRecord before → IsSettled before
    → (disks : Disks) → restored_of shape (with_files disks node (files_of before)) ≡ Ok r
    → LeavesOnly after (length before) (λ image. restored_of shape (with_files disks node image) ≡ Ok r)

-- the system slot is of a lesser generation, where there is one
abbrev pub IsBelow : ℕ → Option SystemSlot → Type 0
IsBelow generation None = Unit {0}
IsBelow generation (Some slot) = slot.generation < generation

-- the life behind what was restored is named by the latest system slot of these files, or no such life is
abbrev pub IsNamedOrBelow : Shape → Restored → Option SystemSlot → Type 0
IsNamedOrBelow shape r slot = (slot ≡ Some (next_system shape r)) ⊎ IsBelow (r.generation + 1) slot

-- a node's files are prepared, and the life is named on them or isn't yet
abbrev pub MayBeNamed : Shape → Restored → ℕ → Files → Type 0
MayBeNamed shape r node files =
    ((slot : ControlSlot) × HasSlot shape node r files slot)
    × ((slot : Option SystemSlot) × ((latest_on shape node files ≡ Ok slot) × IsNamedOrBelow shape r slot))

-- the same epoch and the same rows, in the same life or the next
pub record IsSameOrNext (r found : Restored) : Type 0 where
  pub generation : (found.generation ≡ r.generation) ⊎ (found.generation ≡ r.generation + 1)
  pub epoch : found.epoch ≡ r.epoch
  pub groups : found.groups ≡ r.groups

-- a restart gives the same epoch and rows
abbrev pub RestartsAs : Shape → Restored → Disks → Type 0
RestartsAs shape r disks = (found : Restored) × ((restored_of shape disks ≡ Ok found) × IsSameOrNext r found)

-- All disks are prepared for the life behind what was restored, and on some of them it is named, but not on this one.
pub record AreToBeNamed (shape : Shape) (node : ℕ) (r : Restored) (disks : Disks) (calls : List Call) : Type 0 where
  pub kept : IsRecord calls
  pub settled : IsSettled calls
  pub least : 1 ≤ node
  pub most : node ≤ shape.nodes
  pub groups : length r.groups ≡ groups shape
  pub others :
      (other : ℕ) → 1 ≤ other → other ≤ shape.nodes
      → MayBeNamed shape r other (with_files disks node (files_of calls) other)
  pub below :
      (slot : Option SystemSlot) × ((latest_on shape node (files_of calls) ≡ Ok slot) × IsBelow (r.generation + 1) slot)
  pub same : RestartsAs shape r (with_files disks node (files_of calls))

-- a node's disk is prepared, and may be given the system slot that names the life
pub record MayName (shape : Shape) (node : ℕ) (r : Restored) (calls : List Call) : Type 0 where
  pub kept : IsRecord calls
  pub prepared : HasPrepared shape node r calls
  pub below :
      (slot : Option SystemSlot) × ((latest_on shape node (files_of calls) ≡ Ok slot) × IsBelow (r.generation + 1) slot)

-- Whatever a crash leaves of a node's disk at any moment since a record, a restart gives the same epoch and rows.
abbrev pub KeepsOrNames : Shape → ℕ → Restored → List Call → List Call → Type 0
KeepsOrNames shape node r before after =
    (disks : Disks) → AreToBeNamed shape node r disks before
    → LeavesOnly after (length before) (λ image. RestartsAs shape r (with_files disks node image))
