-- What a node's disk has of its member's hosts at each moment of a life.
use Rattle.std.specs.Prelude.{◌≡◌, ◌≢◌, ◌⊎◌, ◌≤◌, ◌<◌, ℕ, ◌+◌, ◌-◌, true, false, List, ◌++◌, get_or, length, take, None}
use Rattle.std.specs.Prelude.{Some}
use Rattle.host_io.specs.Call.{Call}
use Rattle.host_io.specs.DiskState.{state_of}
use Rattle.host_io.specs.Image.{IsImage, IsRecord}
use Rattle.host_io.specs.declared.limits.TheConstants.{FILES}
use Rattle.run_theory.specs.Lists.{IsIn, IsPast}
use Rattle.sig_core.specs.declared.member.Member.{Member}
use Rattle.sig_core.specs.declared.redo.Redo.{Redo}
use Rattle.sig_core.specs.declared.slots.SystemSlot.{SystemSlot}
use Rattle.sig_core.specs.Journal.{end_of}
use Rattle.sig_core.specs.Table.{Rows}
use Rattle.local_ckpt.specs.Events.{Event}
use Rattle.local_ckpt.specs.Laws.{pieces_bytes}
use Rattle.lqh_saver.specs.declared.stage.Stage.{Stage}
use Rattle.lqh_saver.specs.declared.stage.Stage.TheVariants.{Resting, Walked, Walking}
use Rattle.lqh_saver.specs.declared.switching.TheConstants.{CHECKPOINTS, POSITIONS}
use Rattle.redo_log.specs.Replaying.{AreRecords}
use Rattle.redo_log.specs.Stored.{files_of}
use Rattle.request_laws.specs.Blocks.{rows_after, saver_after}
use Rattle.sys_restart.specs.Files.{Files}
use Rattle.sysfile_core.specs.declared.place.TheConstants.{SYSTEM_FILE}
use Rattle.world_core.specs.Start.{Start, made}
use Rattle.world_core.specs.Steps.{HostStep}
use Rattle.world_core.specs.World.{logs_at}
use Rattle.world_views.specs.World.{Whole}
use Rattle.world_views.specs.Machine.{has_stopped}
use Rattle.moment_laws.specs.Places.{ldm_of, tc_of}
use Rattle.node_disk.specs.Laws.{HasSystem, IsSettledAt}
use Rattle.node_disk.specs.Saving.{free_file}
use Rattle.node_disk.specs.Slots.{SlotsInUse}
use Rattle.node_restart.specs.Rows.{HasRows}
use Rattle.disk_world.specs.Disks.{Disks}
use Rattle.journal_laws.specs.Events.{records_behind}
use Rattle.journal_laws.specs.Journal.{AreEventsOf, first_rows, lqh_after}
use Rattle.journal_laws.specs.Saver.{IsToldDone, written}
use Rattle.journal_laws.specs.Walks.{pieces_if}
use Rattle.saved_laws.specs.Checkpoints.{StandFor}
use Rattle.disk_laws.specs.Found.{HasLatest, HasSavedRows}
use Rattle.disk_laws.specs.Noted.{IsFirstOrNoted, WasNoted}

module _ (start : Start) (member : Member) (before : Rows) (first : SystemSlot) where
  -- What a disk was told to write of the newest checkpoint stands at the front of the file that isn't in use.
  abbrev pub HasWritten : ℕ → List HostStep → SlotsInUse → List Call → Type 0
  HasWritten size log s calls =
      let bytes = pieces_bytes (pieces_if size (written start member log)) in
      take (length bytes) (files_of calls (free_file s)) ≡ bytes

  -- and once a walk has passed all rows, nothing of it is dirty
  abbrev pub HasWalked : Stage → List HostStep → SlotsInUse → List Call → Type 0
  HasWalked Resting log s calls = Unit {0}
  HasWalked (Walking walk to) log s calls = HasWritten walk.size log s calls
  HasWalked (Walked finished end) log s calls =
      HasWritten finished.size log s calls × IsSettledAt calls (free_file s)

  -- The serial numbers of control slots suffice: as many were used as epochs were saved, and checkpoints named.
  abbrev pub HaveSerials : ℕ → SlotsInUse → Type 0
  HaveSerials named s =
      (s.control.serial ≤ 1 + named)
      ⊎ ((start.epoch ≤ s.control.saved) × (s.control.serial + start.epoch ≤ 2 + s.control.saved + named))

  -- What these rows and records stand for has gone on: with the newer records they stand for all that was until now.
  pub record StandUntilNow (log : List HostStep) (base : Rows) (least position : ℕ) (events : List Event)
      (redo : List Redo) : Type 0 where
    pub now : List Event
    pub events_of : AreEventsOf start member log now
    pub are : AreRecords (records_behind (first_rows start member) now)
    pub newer : List Redo
    pub is : records_behind (first_rows start member) now ≡ newer ++ records_behind (first_rows start member) events
    pub stand : StandFor start member before base least position now (newer ++ redo)

  -- The disk has the rows that were saved last, and nothing of them is dirty: a checkpoint, which may be of the first
  -- rows or a later one, and the records from its position on.
  pub record HasLastRows (log : List HostStep) (s : SlotsInUse) (calls : List Call) : Type 0 where
    pub generation_is : s.control.generation ≡ first.generation
    pub begins : s.control.redo_start ≡ (lqh_after start member log).outlet.flushed
    pub low : s.control.redo_start < POSITIONS
    pub ends : s.control.redo_end ≡ (saver_after start member log).saved_end
    pub serial : HaveSerials (saver_after start member log).named s
    pub few : (saver_after start member log).named ≤ CHECKPOINTS
    pub older : List HostStep
    pub past : IsPast older log
    pub saved : s.control.saved ≡ (rows_after start member older).saved
    pub latest : (rows_after start member log).saved ≡ s.control.saved
    pub events : List Event
    pub events_of : AreEventsOf start member older events
    -- all that the journal had then is saved
    pub end_is : s.control.redo_end ≡ end_of (lqh_after start member older).outlet
    pub base : Rows
    pub redo : List Redo
    pub least : ℕ
    pub stands : StandFor start member before base least s.control.redo_start events redo
    -- they are the newest of all
    pub gone : List Redo
    pub all : records_behind (first_rows start member) events ≡ redo ++ gone
    pub until_now : StandUntilNow log base least s.control.redo_start events redo
    pub told : IsToldDone start member log least
    pub rows : HasRows s least base redo calls

  -- and what was written of the next one, as long as their host runs
  pub record HasAllRows (log : List HostStep) (s : SlotsInUse) (calls : List Call) : Type 0 where
    pub last : HasLastRows log s calls
    pub walked : has_stopped log ≡ false → HasWalked (saver_after start member log).stage log s calls

  -- A call for the rows failed, and their host has stopped: whatever a crash leaves of the other files, what was saved
  -- is found.
  pub record LeavesRows (log : List HostStep) (calls : List Call) : Type 0 where
    pub kept : IsRecord calls
    pub stopped : has_stopped log ≡ true
    pub leaves :
        (image : Files)
        → ((file : ℕ) → file < FILES → file ≢ SYSTEM_FILE → IsImage (state_of calls file) (image file))
        → HasSavedRows start member before first.generation log image

  -- the same of the system slot
  pub record HasAllNoted (log : List HostStep) (s : SlotsInUse) (calls : List Call) : Type 0 where
    pub slot : HasSystem s calls
    pub shape : first.shape ≡ start.shape
    pub is : IsFirstOrNoted start (tc_of start member) log first s.system
    pub least : first.epoch ≤ s.system.epoch
    pub latest : (epoch mask : ℕ) → WasNoted start (tc_of start member) log epoch mask → epoch ≤ s.system.epoch

  pub record LeavesNoted (log : List HostStep) (calls : List Call) : Type 0 where
    pub kept : IsRecord calls
    pub stopped : has_stopped log ≡ true
    pub leaves :
        (image : Files) → IsImage (state_of calls SYSTEM_FILE) (image SYSTEM_FILE)
        → HasLatest start member before first log image

  -- what holds of the rows, and of the system slot, at each moment: no call failed, or their host has stopped
  abbrev pub KeepsRows : List HostStep → SlotsInUse → List Call → Type 0
  KeepsRows log s calls = HasAllRows log s calls ⊎ LeavesRows log calls

  abbrev pub KeepsNoted : List HostStep → SlotsInUse → List Call → Type 0
  KeepsNoted log s calls = HasAllNoted log s calls ⊎ LeavesNoted log calls

  -- the disk of the member's node tells these calls, and has what its hosts gave it to keep
  pub record IsOnDisk (ldm_log tc_log : List HostStep) (s : SlotsInUse) (calls : List Call) : Type 0 where
    pub rows : KeepsRows ldm_log s calls
    pub noted : KeepsNoted tc_log s calls

  -- so it is at a moment of a world and its disks
  pub record KeepsUp (w : Whole) (disks : Disks) : Type 0 where
    pub there : IsIn member (made start)
    pub slots : SlotsInUse
    pub slots_are : (other : SlotsInUse) → get_or disks.slots (member.node - 1) other ≡ slots
    pub calls : List Call
    pub told : get_or disks.told (member.node - 1) None ≡ Some calls
    pub is : IsOnDisk (logs_at w.logs (ldm_of start member)) (logs_at w.logs (tc_of start member)) slots calls
