-- A restart from what a crash left of the disks of a life: its history up to one epoch.
use Rattle.std.specs.Prelude.{◌≡◌, ◌≤◌, ◌<◌, ℕ, ◌+◌, false, true, List, length, None, Some, Ok}
use Rattle.std.specs.FinMap as map
use Rattle.frag_map.specs.Layout.{holds}
use Rattle.frag_map.specs.Shape.{groups}
use Rattle.run_theory.specs.Links.{taken}
use Rattle.run_theory.specs.Lists.{Each, IsIn}
use Rattle.sig_core.specs.declared.mark.Mark.TheVariants.{Durable}
use Rattle.sig_core.specs.declared.member.Member.{Member}
use Rattle.sig_core.specs.Rows.{row_of}
use Rattle.sig_core.specs.declared.view.Shape.{Shape}
use Rattle.sys_restart.specs.declared.restored.Restored.{Restored}
use Rattle.sys_restart.specs.Calls.{next_system, rows_of_node}
use Rattle.sys_restart.specs.Files.{Disks}
use Rattle.sys_restart.specs.Latest.{latest_on}
use Rattle.sys_restart.specs.Restored.{restored_of}
use Rattle.sysfile_core.specs.declared.place.TheConstants.{CONTROL_FILE}
use Rattle.sysfile_core.specs.Owner.{owner_of}
use Rattle.view_laws.specs.Runs.{AreOfCluster}
use Rattle.world_core.specs.Hosts.{hosts}
use Rattle.world_core.specs.Start.{Start, made}
use Rattle.world_core.specs.Steps.{Addressed, HostStep}
use Rattle.world_views.specs.Machine.{machine}
use Rattle.moment_laws.specs.Places.{ldm_of, tc_of}
use Rattle.outcome_laws.specs.Decided.{IsMarked}
use Rattle.journal_laws.specs.Journal.{first_rows}
use Rattle.saved_laws.specs.History.{row_up_to}
use Rattle.disk_laws.specs.Found.{HasLatest, HasSavedRows}
use Rattle.disk_laws.specs.Noted.{kept_part}
use Rattle.disk_laws.specs.ToldSlots.{SlotsAreTold}
use Rattle.restart_laws.specs.Told.{TellsNotedDurable, TellsNotedRows}

-- Each group has rows of its keys alone.
abbrev pub AreGrouped : Shape → Restored → Type 0
AreGrouped shape r =
    (node : ℕ) (key : List ℕ) → 1 ≤ node → node ≤ shape.nodes → holds shape node key ≡ false
    → map.get (rows_of_node shape node r) key ≡ None

-- What a crash left of the disk of a member's node, in a life that began behind what was restored.
pub record IsLeftOf (start : Start) (r : Restored) (logs : ℕ → List HostStep) (images : Disks) (member : Member)
    : Type 0 where
  -- the member began with the rows of its group
  pub begun :
      (key : List ℕ)
      → map.get (rows_of_node start.shape member.node r) key ≡ row_of (first_rows start member) key
  pub saved :
      HasSavedRows start member (rows_of_node start.shape member.node r) (r.generation + 1)
      (logs (ldm_of start member)) (images member.node)
  pub noted :
      HasLatest start member (rows_of_node start.shape member.node r) (next_system start.shape r)
      (logs (tc_of start member)) (images member.node)
  -- no slot there is of another shape
  pub latest : latest_on start.shape member.node (images member.node) ≡ Ok (Some noted.slot)
  -- of two control slots one was saved at an epoch that is durable
  pub told_slots : SlotsAreTold start member (r.generation + 1) logs (images member.node CONTROL_FILE)
  -- and they stand in a file that names the node
  pub owner : owner_of (images member.node CONTROL_FILE) ≡ Some member.node
  -- nobody was told what wasn't kept
  pub told_saved :
      (j : ℕ) → j < hosts start
      → Each (λ (y : Addressed). TellsNotedRows start member (kept_part (logs (ldm_of start member))) y.signal.body)
      (taken (machine start) (ldm_of start member) (logs j))
  pub told_durable :
      (j : ℕ) → j < hosts start
      → Each (λ (y : Addressed). TellsNotedDurable start member (kept_part (logs (tc_of start member))) y.signal.body)
      (taken (machine start) (tc_of start member) (logs j))

pub record AreLeft (start : Start) (r : Restored) (logs : ℕ → List HostStep) (images : Disks) : Type 0 where
  pub cluster : AreOfCluster start logs
  pub epoch_is : start.start_epoch ≡ r.epoch
  pub below : r.epoch < start.epoch
  pub groups_are : length r.groups ≡ groups start.shape
  pub grouped : AreGrouped start.shape r
  pub each : (member : Member) → IsIn member (made start) → IsLeftOf start r logs images member

-- What is restored is of this life: its history up to an epoch that isn't below the one from which it started, nor
-- below any that was reported durable.
pub record IsOfLife (start : Start) (r : Restored) (logs : ℕ → List HostStep) (found : Restored) : Type 0 where
  pub generation_is : found.generation ≡ r.generation + 1
  pub least : r.epoch ≤ found.epoch
  pub durable : (h epoch : ℕ) → h < hosts start → IsMarked (Durable epoch) (logs h) → epoch ≤ found.epoch
  pub groups_are : length found.groups ≡ groups start.shape
  pub rows :
      (node : ℕ) (key : List ℕ) → 1 ≤ node → node ≤ start.shape.nodes → holds start.shape node key ≡ true
      → map.get (rows_of_node start.shape node found) key ≡ row_up_to start logs found.epoch key
  pub grouped : AreGrouped start.shape found

abbrev pub RestartsAreHistory : Type 0
RestartsAreHistory =
    (start : Start) (r : Restored) (logs : ℕ → List HostStep) (images : Disks) → AreLeft start r logs images
    → (found : Restored) × ((restored_of start.shape images ≡ Ok found) × IsOfLife start r logs found)
