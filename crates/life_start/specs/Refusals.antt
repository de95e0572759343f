-- Why no life begins on disks.
use Rattle.std.specs.Prelude.{◌≡◌, ◌≤◌, ◌⊎◌, ℕ, ◌+◌, true, List, Option, None, Some, Result, Ok, Err}
use Rattle.host_io.specs.Call.{Call}
use Rattle.redo_log.specs.Stored.{files_of}
use Rattle.sig_core.specs.declared.fault.ReadFault.{ReadFault}
use Rattle.sig_core.specs.declared.fault.RestartFault.{RestartFault}
use Rattle.sig_core.specs.declared.fault.RestartFault.TheVariants.{Damaged, UsedUp}
use Rattle.sig_core.specs.declared.view.Shape.{Shape}
use Rattle.node_disk.specs.Found.{slots_in}
use Rattle.node_disk.specs.Slots.{SlotsInUse}
use Rattle.sysfile_core.specs.declared.place.TheConstants.{CONTROL_FILE}
use Rattle.sys_restart.specs.Answers.{of_node}
use Rattle.sys_restart.specs.Calls.{is_used_up}
use Rattle.sys_restart.specs.declared.restored.Restored.{Restored}
use Rattle.sys_restart.specs.Files.{Disks}
use Rattle.sys_restart.specs.LifeCalls.{told_by}
use Rattle.sys_restart.specs.Restored.{restored_of}

-- the numbers of what is restored are used up, and the fault says so
abbrev pub IsUsedUpBy : Restored → RestartFault → Type 0
IsUsedUpBy r fault = (is_used_up r ≡ true) × (fault ≡ UsedUp r.generation r.epoch)

-- what is restored has the last generation, or the last checkpoint number
pub record AreUsedUp (shape : Shape) (disks : Disks) (fault : RestartFault) : Type 0 where
  pub restored : Restored
  pub read : restored_of shape disks ≡ Ok restored
  pub used_up : is_used_up restored ≡ true
  pub is : fault ≡ UsedUp restored.generation restored.epoch

-- what is wrong with a node's disk on which these slots were found
abbrev pub IsLack : ℕ → Result (Option SlotsInUse) ReadFault → RestartFault → Type 0
IsLack node (Ok None) fault = fault ≡ Damaged node CONTROL_FILE 0 0
IsLack node (Ok (Some slots)) fault = ⊥
IsLack node (Err found) fault = fault ≡ of_node node found

-- a node's disk doesn't have the slots that it was given for the life behind what was restored
pub record LacksSlots (shape : Shape) (disks : Disks) (now : List (Option (List Call))) (fault : RestartFault)
    : Type 0 where
  pub restored : Restored
  pub read : restored_of shape disks ≡ Ok restored
  pub node : ℕ
  pub least : 1 ≤ node
  pub most : node ≤ shape.nodes
  pub lacks :
      (calls : List Call) → told_by now node ≡ Some calls
      → IsLack node (slots_in (restored.generation + 1) (files_of calls)) fault

-- No life begins on disks that said this, and tell this now: a restart from them is refused, or the numbers of what is
-- restored are used up, or a slot that was written can't be read.
abbrev pub IsRefusedFor : Shape → Disks → List (Option (List Call)) → RestartFault → Type 0
IsRefusedFor shape disks now fault =
    (restored_of shape disks ≡ Err fault) ⊎ AreUsedUp shape disks fault ⊎ LacksSlots shape disks now fault
