-- Disks from one life to the next.
use Rattle.std.specs.Prelude.{◌≡◌, ◌≤◌, ◌<◌, ℕ, List, [], get_or, Option, Some, Ok}
use Rattle.std.specs.FinMap as map
use Rattle.frag_map.specs.Shape.{IsShape}
use Rattle.host_io.specs.Call.{Call}
use Rattle.host_io.specs.Image.{IsLeft, IsRecord}
use Rattle.life_start.specs.Begun.{end_of_epochs, rows_of}
use Rattle.saved_laws.specs.History.{row_up_to}
use Rattle.serial_model.specs.Legal as legal
use Rattle.sig_core.specs.declared.view.Shape.{Shape}
use Rattle.sys_restart.specs.declared.restored.Restored.{Restored}
use Rattle.sys_restart.specs.Files.{disks_of}
use Rattle.sys_restart.specs.LifeCalls.{record_of, told_by}
use Rattle.sys_restart.specs.Prepared.{IsSettled}
use Rattle.sys_restart.specs.Restored.{nothing, restored_of}
use Rattle.world_core.specs.Start.{Start}
use Rattle.world_core.specs.Steps.{HostStep}
use Rattle.world_core.specs.World.{logs_at}
use Rattle.world_views.specs.World.{Whole}
use Rattle.disk_world.specs.Disks.{Disks}
use Rattle.restart_laws.specs.Lived.{AreFitFor, IsLived, MayBegin}
use Rattle.restart_laws.specs.Restart.{IsOfLife}

-- disks to which nothing was done are fit for a life
abbrev pub NewDisksAreFit : Type 0
NewDisksAreFit =
    (shape : Shape) (records : List (List Call)) → IsShape shape → ((at : ℕ) → get_or records at [] ≡ [])
    → AreFitFor shape (nothing shape) records

-- The power of the disks of so many nodes was cut: nothing of them is dirty any more, and their files are what a crash
-- may leave of what they had told.
pub record AreCut (shape : Shape) (told : List (Option (List Call))) (records : List (List Call)) : Type 0 where
  pub kept : (node : ℕ) → IsRecord (record_of records node)
  pub settled : (node : ℕ) → 1 ≤ node → node ≤ shape.nodes → IsSettled (record_of records node)
  pub left :
      (node : ℕ) (calls : List Call) → told_by told node ≡ Some calls → IsLeft calls (disks_of records node)

-- so are those that a crash leaves of a life, where there is an epoch behind what is restored of them
abbrev pub LivesAreHandedOn : Type 0
LivesAreHandedOn =
    (start : Start) (r : Restored) (w : Whole) (disks : Disks) (records : List (List Call)) → IsLived r w disks start
    → AreCut start.shape disks.told records
    → (found : Restored)
    × ((restored_of start.shape (disks_of records) ≡ Ok found) × IsOfLife start r (logs_at w.logs) found
    × (found.epoch < end_of_epochs → AreFitFor start.shape found records))

-- The next life, behind what is restored, begins with the rows of the history of the one before, up to the epoch that
-- is restored.
abbrev pub LivesGoOnFromHistory : Type 0
LivesGoOnFromHistory =
    (start : Start) (r found : Restored) (logs : ℕ → List HostStep) → IsOfLife start r logs found
    → MayBegin start.shape found
    → (key : List ℕ) → map.get (legal.rows_of (rows_of found.groups)) key ≡ row_up_to start logs found.epoch key
