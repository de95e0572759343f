-- Disks of a cluster that are ready for a life.
use Rattle.std.specs.Prelude.{◌≡◌, ◌≤◌, ℕ, List, Option, Some, Ok}
use Rattle.host_io.specs.Call.{Call}
use Rattle.sig_core.specs.declared.view.Shape.{Shape}
use Rattle.sys_restart.specs.declared.restored.Restored.{Restored}
use Rattle.sys_restart.specs.Files.{disks_of}
use Rattle.sys_restart.specs.LifeCalls.{record_of, told_by}
use Rattle.sys_restart.specs.Prepared.{IsReady, MayPrepare}
use Rattle.sys_restart.specs.Restored.{restored_of}

-- a restart from the disks gives what was restored, and each of them may be prepared for the life behind it
pub record AreToPrepare (shape : Shape) (r : Restored) (records : List (List Call)) : Type 0 where
  pub restored : restored_of shape (disks_of records) ≡ Ok r
  pub each : (node : ℕ) → 1 ≤ node → node ≤ shape.nodes → MayPrepare shape node r (record_of records node)

-- the disk of each node is ready
abbrev pub AreReady : Shape → Restored → List (Option (List Call)) → Type 0
AreReady shape r told =
    (node : ℕ) → 1 ≤ node → node ≤ shape.nodes
    → (calls : List Call) × ((told_by told node ≡ Some calls) × IsReady shape node r calls)
