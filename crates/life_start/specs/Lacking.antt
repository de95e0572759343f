-- Disks that lack slots, and why no life begins behind what was restored.
use Rattle.std.specs.Prelude.{◌≡◌, ◌≤◌, ◌⊎◌, ℕ, ◌+◌, List, Option, Some}
use Rattle.host_io.specs.Call.{Call}
use Rattle.redo_log.specs.Stored.{files_of}
use Rattle.sig_core.specs.declared.fault.RestartFault.{RestartFault}
use Rattle.node_disk.specs.Found.{slots_in}
use Rattle.sys_restart.specs.declared.restored.Restored.{Restored}
use Rattle.sys_restart.specs.LifeCalls.{told_by}
use Rattle.life_start.specs.Refusals.{IsLack, IsUsedUpBy}

-- one of so many disks, which tell this, doesn't have slots of a generation
pub record Lacks (generation count : ℕ) (told : List (Option (List Call))) (fault : RestartFault) : Type 0 where
  pub node : ℕ
  pub least : 1 ≤ node
  pub most : node ≤ count
  pub lacks :
      (calls : List Call) → told_by told node ≡ Some calls
      → IsLack node (slots_in generation (files_of calls)) fault

-- no life begins on so many disks behind what was restored: its numbers are used up, or a disk lacks the slots
abbrev pub IsNoneBehind : Restored → ℕ → List (Option (List Call)) → RestartFault → Type 0
IsNoneBehind r count told fault =
    IsUsedUpBy r fault ⊎ Lacks (r.generation + 1) count told fault
