-- A life on disks, moment by moment.
use Rattle.std.specs.Prelude.{◌≡◌, ◌≤◌, ◌<◌, ℕ, ◌+◌, ◌-◌, List, get_or, length, map, Option, Some, Ok}
use Rattle.std.specs.FinMap as finmap
use Rattle.frag_map.specs.Shape.{IsShape, groups}
use Rattle.host_io.specs.Call.{Call}
use Rattle.host_io.specs.Image.{IsLeft, IsRecord}
use Rattle.redo_log.specs.Stored.{files_of}
use Rattle.run_theory.specs.Lists.{IsIn}
use Rattle.sig_core.specs.declared.member.Member.{Member}
use Rattle.sig_core.specs.declared.request.ApiReq.{ApiReq}
use Rattle.sig_core.specs.declared.view.Shape.{Shape}
use Rattle.sig_core.specs.Rows.{row_of}
use Rattle.life_start.specs.Begun.{AreSlotsOf, end_of_epochs, rows_of}
use Rattle.life_start.specs.Records.{AllTellMore}
use Rattle.life_start.specs.Shapes.{AreOfShape, HaveShape}
use Rattle.node_disk.specs.Found.{slots_in}
use Rattle.node_disk.specs.Slots.{SlotsInUse}
use Rattle.sys_restart.specs.declared.restored.Restored.{Restored}
use Rattle.sys_restart.specs.Calls.{next_system, rows_of_node}
use Rattle.sys_restart.specs.Files as files
use Rattle.sys_restart.specs.LifeCalls.{told_by}
use Rattle.sys_restart.specs.Prepared.{AreStorable, IsReady}
use Rattle.sys_restart.specs.ReadyDisks.{AreReady, AreToPrepare}
use Rattle.sys_restart.specs.Restored.{restored_of}
use Rattle.sysfile_core.specs.declared.place.TheConstants.{SYSTEM_FILE}
use Rattle.world_core.specs.Start.{Start, made}
use Rattle.world_core.specs.World.{logs_at}
use Rattle.world_views.specs.Driven.{HasAsked, IsSound}
use Rattle.world_views.specs.World.{Whole, new_world}
use Rattle.disk_world.specs.Disks.{Disks, WayOn}
use Rattle.disk_world.specs.Starting.{start_from}
use Rattle.journal_laws.specs.Asked.{AreOfWords, IsOfRequest}
use Rattle.journal_laws.specs.Journal.{first_rows}
use Rattle.disk_laws.specs.OnDisk.{KeepsUp}
use Rattle.disk_laws.specs.Owners.{KeepsOwner}
use Rattle.disk_laws.specs.Shapes.{KeepsShape}
use Rattle.disk_laws.specs.ToldSlots.{KeepsTold}
use Rattle.restart_laws.specs.Restart.{AreGrouped, IsOfLife}
use Rattle.restart_laws.specs.Told.{TellsWhatIsKept}

-- A life may begin behind what was restored: there is an epoch behind it, and each group has its rows.
pub record MayBegin (shape : Shape) (r : Restored) : Type 0 where
  pub is_shape : IsShape shape
  pub last : r.epoch < end_of_epochs
  pub groups_are : length r.groups ≡ groups shape
  pub grouped : AreGrouped shape r

-- disks that told these records are fit for such a life, behind what is restored of them
abbrev pub AreFitFor : Shape → Restored → List (List Call) → Type 0
AreFitFor shape r records = AreToPrepare shape r records × MayBegin shape r

-- The disk of a node is ready for that life, and these are its slots in use.
pub record IsReadyFor (shape : Shape) (r : Restored) (disks : Disks) (node : ℕ) : Type 0 where
  pub calls : List Call
  pub told : told_by disks.told node ≡ Some calls
  pub kept : IsRecord calls
  pub ready : IsReady shape node r calls
  pub slots : SlotsInUse
  pub slots_are : (other : SlotsInUse) → get_or disks.slots (node - 1) other ≡ slots
  pub found : slots_in (r.generation + 1) (files_of calls) ≡ Ok (Some slots)
  pub shapes : AreOfShape shape (files_of calls SYSTEM_FILE)
  -- the rows with which it begins can be written
  pub storable : AreStorable (rows_of_node shape node r)

pub record AreReadyFor (shape : Shape) (r : Restored) (disks : Disks) : Type 0 where
  pub told : length disks.told ≡ shape.nodes
  pub slots : length disks.slots ≡ shape.nodes
  pub each : (node : ℕ) → 1 ≤ node → node ≤ shape.nodes → IsReadyFor shape r disks node

-- disks that a life was opened on are ready for it
abbrev pub OpenedAreReady : Type 0
OpenedAreReady =
    (shape : Shape) (r : Restored) (records : List (List Call)) (told : List (Option (List Call)))
    (slots : List SlotsInUse) → AreToPrepare shape r records → AreReady shape r told
    → AllTellMore (map Some records) told → HaveShape shape told
    → ((now : List (List Call)) → told ≡ map Some now → AreSlotsOf (r.generation + 1) (files.disks_of now) slots)
    → length told ≡ shape.nodes → length slots ≡ shape.nodes
    → AreReadyFor shape r (record { told = told; slots = slots })

-- the life that begins behind what was restored
abbrev pub start_behind : Shape → Restored → Start
start_behind shape r = start_from shape r.epoch (rows_of r.groups)

-- the disk of a member's node keeps up with its hosts, and nobody is told what it hasn't kept
pub record IsLivedAt (start : Start) (r : Restored) (member : Member) (w : Whole) (disks : Disks) : Type 0 where
  pub up :
      KeepsUp start member (rows_of_node start.shape member.node r) (next_system start.shape r) w disks
  pub tells : TellsWhatIsKept start member w
  pub shape : KeepsShape start.shape member.node disks
  -- of its two control slots one was saved at an epoch that is durable
  pub told_slots : KeepsTold start member (r.generation + 1) w disks
  pub owner : KeepsOwner member.node disks
  -- the rows with which it began can be written
  pub storable : AreStorable (rows_of_node start.shape member.node r)

-- A life that began behind what was restored has come to this world and these disks.
pub record IsLived (r : Restored) (w : Whole) (disks : Disks) (start : Start) : Type 0 where
  pub is_start : start ≡ start_behind start.shape r
  pub may : MayBegin start.shape r
  pub sound : IsSound start w
  -- the shell was asked for words
  pub words : AreOfWords (logs_at w.logs 0)
  pub told : start.shape.nodes ≤ length disks.told
  pub slots : start.shape.nodes ≤ length disks.slots
  pub each : (member : Member) → IsIn member (made start) → IsLivedAt start r member w disks

-- it begins on disks that are ready for it
abbrev pub LivesBegin : Type 0
LivesBegin =
    (shape : Shape) (r : Restored) (disks : Disks) → MayBegin shape r → AreReadyFor shape r disks
    → IsSound (start_behind shape r) (new_world (start_behind shape r))
    → IsLived r (new_world (start_behind shape r)) disks (start_behind shape r)

-- it goes on where hosts do, each with what the disk of its node keeps of it
abbrev pub LivesGoOn : Type 0
LivesGoOn =
    (start : Start) (r : Restored) (w t : Whole) (old new : Disks) → WayOn w old t new → IsLived r w old start
    → IsLived r t new start

-- where the shell asks for something, of words, and where it is given replies
abbrev pub LivesAsk : Type 0
LivesAsk =
    (start : Start) (r : Restored) (request : ApiReq) (w t : Whole) (disks : Disks) → HasAsked start request w t
    → IsOfRequest request → IsLived r w disks start → IsLived r t disks start

abbrev pub LivesHear : Type 0
LivesHear =
    (start : Start) (r : Restored) (w t : Whole) (disks : Disks) → IsSound start t → t.logs ≡ w.logs
    → t.links ≡ w.links → IsLived r w disks start → IsLived r t disks start

-- Whatever a crash leaves of its disks, a restart comes to its history, up to an epoch that isn't below any that was
-- reported durable.
abbrev pub LivesRestart : Type 0
LivesRestart =
    (start : Start) (r : Restored) (w : Whole) (disks : Disks) (images : files.Disks) → IsLived r w disks start
    → ((node : ℕ) (calls : List Call) → told_by disks.told node ≡ Some calls → IsLeft calls (images node))
    → (found : Restored)
    × ((restored_of start.shape images ≡ Ok found) × IsOfLife start r (logs_at w.logs) found)

-- the rows with which a member begins are those of its group
abbrev pub RowsBegin : Type 0
RowsBegin =
    (shape : Shape) (r : Restored) (member : Member) → MayBegin shape r → IsIn member (made (start_behind shape r))
    → (key : List ℕ)
    → finmap.get (rows_of_node shape member.node r) key ≡ row_of (first_rows (start_behind shape r) member) key
