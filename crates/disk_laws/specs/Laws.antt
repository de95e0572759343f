-- The disks of nodes keep up with their hosts.
use Rattle.std.specs.Prelude.{◌≡◌, ◌⊎◌, ◌≤◌, ◌<◌, ℕ, ◌+◌, ◌-◌, ◌^◌, List, [], length, Some, Ok}
use Rattle.host_io.specs.Call.{Call}
use Rattle.host_io.specs.Image.{IsLeft, IsRecord}
use Rattle.redo_log.specs.Stored.{files_of}
use Rattle.local_ckpt.specs.Events.{Event}
use Rattle.request_laws.specs.Blocks.{rows_after, saver_after}
use Rattle.run_theory.specs.Lists.{IsIn, IsPast}
use Rattle.sig_core.specs.declared.journal.TheConstants.{JOURNAL_BYTES}
use Rattle.sig_core.specs.declared.member.Member.{Member}
use Rattle.sig_core.specs.declared.request.ApiReq.{ApiReq}
use Rattle.sig_core.specs.declared.slots.SystemSlot.{SystemSlot}
use Rattle.sig_core.specs.declared.walk.Finished.{Finished}
use Rattle.sig_core.specs.Table.{Rows}
use Rattle.node_disk.specs.Found.{slots_in}
use Rattle.node_disk.specs.Slots.{SlotsInUse}
use Rattle.sys_restart.specs.declared.restored.Restored.{Restored}
use Rattle.sys_restart.specs.Calls.{next_system, rows_of_node}
use Rattle.sys_restart.specs.Files.{Files}
use Rattle.sys_restart.specs.Prepared.{IsReady}
use Rattle.world_core.specs.Start.{NobodyStarts, Start, made}
use Rattle.world_core.specs.Steps.{HostStep}
use Rattle.world_core.specs.World.{logs_at}
use Rattle.world_views.specs.Driven.{HasAsked, IsSound}
use Rattle.world_views.specs.World.{Whole}
use Rattle.moment_laws.specs.Places.{ldm_of, tc_of}
use Rattle.disk_world.specs.Disks.{Disks, HasGoneOn}
use Rattle.lqh_saver.specs.declared.stage.Stage.TheVariants.{Walked}
use Rattle.journal_laws.specs.Journal.{HasRecords, lqh_after}
use Rattle.journal_laws.specs.Walks.{IsFollowed}
use Rattle.saved_laws.specs.Checkpoints.{IsCheckpoint}
use Rattle.disk_laws.specs.Found.{HasLatest, HasSavedRows}
use Rattle.disk_laws.specs.Noted.{WasNoted}
use Rattle.disk_laws.specs.OnDisk.{IsOnDisk, KeepsUp}

-- a disk that is ready for a life has what there is to keep of hosts that did nothing yet
abbrev pub ReadyDisksKeepUp : Type 0
ReadyDisksKeepUp =
    (start : Start) → NobodyStarts start → (member : Member) (r : Restored) (calls : List Call) (s : SlotsInUse)
    → IsRecord calls
    → start.start_epoch ≡ r.epoch → IsIn member (made start) → IsReady start.shape member.node r calls
    → slots_in (r.generation + 1) (files_of calls) ≡ Ok (Some s)
    → IsOnDisk start member (rows_of_node start.shape member.node r) (next_system start.shape r) [] [] s calls

-- What the laws of runs say of a member's rows behind a log, where the rows before were these: the journal has the
-- records of its events, all of them fit in the ring, and there is an epoch behind the one that was noted as saved,
-- which is none of before the life; and a checkpoint that was written stands for all that was before it.
pub record AreSavable (start : Start) (member : Member) (before : Rows) (log : List HostStep) : Type 0 where
  pub events : List Event
  pub records : HasRecords start member log events
  pub followed : IsFollowed start member log events
  pub room : length (lqh_after start member log).outlet.left ≤ JOURNAL_BYTES
  pub saved : (rows_after start member log).saved < 2 ^ 64 - 1
  pub first :
      ((rows_after start member log).saved ≡ start.start_epoch)
      ⊎ (start.epoch ≤ (rows_after start member log).saved)
  pub stands : (finished : Finished) (end : ℕ) → (saver_after start member log).stage ≡ Walked finished end
      → IsCheckpoint start member before log finished end

-- and of each epoch that its node's disk was told is durable: a slot has room for it
abbrev pub AreNotable : Start → Member → List HostStep → Type 0
AreNotable start member log =
    (epoch mask : ℕ) → WasNoted start (tc_of start member) log epoch mask → epoch < 2 ^ 64

-- a host went on, and the disk of its node kept what it was to keep of it
abbrev pub StepsAreKept : Type 0
StepsAreKept =
    (start : Start) (member : Member) (before : Rows) (first : SystemSlot) (w t : Whole) (old new : Disks)
    (counts : List ℕ) → IsSound start w → IsIn member (made start) → start.shape.nodes ≤ length old.told
    → start.shape.nodes ≤ length old.slots → HasGoneOn w old new counts t
    → 2 ^ 32 ≤ start.epoch
    → ((log : List HostStep) → IsPast log (logs_at t.logs (ldm_of start member)) → AreSavable start member before log)
    → AreNotable start member (logs_at t.logs (tc_of start member))
    → KeepsUp start member before first w old
    → KeepsUp start member before first t new

-- the shell asks for something, of which no disk has anything to keep
abbrev pub RequestsAreKept : Type 0
RequestsAreKept =
    (start : Start) (member : Member) (before : Rows) (first : SystemSlot) (request : ApiReq) (w t : Whole)
    (disks : Disks) → IsSound start w → IsIn member (made start) → HasAsked start request w t
    → KeepsUp start member before first w disks → KeepsUp start member before first t disks

-- Whatever a crash leaves of a disk that keeps up, the rows that were saved are found on it, and the latest epoch that
-- was noted.
pub record WhatIsKeptIsFound : Type 0 where
  pub rows :
      (start : Start) → NobodyStarts start → (member : Member) (before : Rows) (first : SystemSlot) (w : Whole)
      (disks : Disks) (image : Files) → (up : KeepsUp start member before first w disks) → IsLeft up.calls image
      → HasSavedRows start member before first.generation (logs_at w.logs (ldm_of start member)) image
  pub noted :
      (start : Start) (member : Member) (before : Rows) (first : SystemSlot) (w : Whole) (disks : Disks)
      (image : Files) → (up : KeepsUp start member before first w disks) → IsLeft up.calls image
      → HasLatest start member before first (logs_at w.logs (tc_of start member)) image
