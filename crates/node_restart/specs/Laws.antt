-- What a restart finds of the rows that a node saved.
use Rattle.std.specs.Prelude.{◌≡◌, ◌⊎◌, ◌≤◌, ℕ, ◌+◌, Bool, true, List, [], ◌++◌, length, Some, Ok}
use Rattle.host_io.specs.Call.{Call}
use Rattle.host_io.specs.Image.{AreBytes, IsLeft, IsRecord, LeavesOnly}
use Rattle.redo_log.specs.Replaying.{AreRecords, log_bytes, replayed}
use Rattle.redo_log.specs.Stored.{files_of}
use Rattle.sig_core.specs.Table.{Rows}
use Rattle.sig_core.specs.declared.redo.Redo.{Redo}
use Rattle.sig_core.specs.declared.view.Shape.{Shape}
use Rattle.sysfile_core.specs.declared.place.TheConstants.{CONTROL_FILE, SYSTEM_FILE}
use Rattle.sysfile_core.specs.Runs.{Runs}
use Rattle.sys_restart.specs.declared.restored.Restored.{Restored}
use Rattle.sys_restart.specs.Calls.{rows_of_node}
use Rattle.sys_restart.specs.Files.{Disks, Files}
use Rattle.sys_restart.specs.Prepared.{AreStorable, IsReady}
use Rattle.sys_restart.specs.Restored.{restored_of}
use Rattle.node_disk.specs.Found.{slots_in}
use Rattle.node_disk.specs.Laws.{MaySaveRows}
use Rattle.node_disk.specs.Saving.{next_control, rows_calls, rows_saved, system_calls, system_saved}
use Rattle.node_disk.specs.Slots.{SlotsInUse}
use Rattle.node_restart.specs.Rows.{AreLater, HasRows, RestoresRows, records_saved}

-- whatever a crash leaves of a disk that has rows, they are restored
abbrev pub RowsAreRestored : Type 0
RowsAreRestored =
    (s : SlotsInUse) (least : ℕ) (start : Rows) (redo : List Redo) (calls : List Call) (image : Files)
    → HasRows s least start redo calls → IsLeft calls image → RestoresRows least image s.control start redo

-- Whatever a crash leaves at any moment of a save of rows, those of before are restored, or those with the newer
-- records. Behind it the disk has the latter.
abbrev pub SavesKeepRows : Type 0
SavesKeepRows =
    (s : SlotsInUse) (epoch least : ℕ) (start : Rows) (newer redo : List Redo) (before after : List Call) (ok : Bool)
    → let bytes = log_bytes newer in
    HasRows s least start redo before → AreRecords newer → MaySaveRows s epoch bytes
    → Runs (rows_calls (files_of before CONTROL_FILE) s epoch bytes) before (Some after) ok
    → LeavesOnly after (length before)
    (λ image. RestoresRows least image s.control start redo
    ⊎ RestoresRows least image (next_control s epoch bytes) start (newer ++ redo))
    × (ok ≡ true → HasRows (rows_saved s epoch bytes) least start (records_saved s epoch newer redo) after)

-- at each moment of a save of the system slot, and behind it, the disk has the rows of before
abbrev pub SystemSavesKeepRows : Type 0
SystemSavesKeepRows =
    (s : SlotsInUse) (epoch mask least : ℕ) (start : Rows) (redo : List Redo) (before after : List Call) (ok : Bool)
    → HasRows s least start redo before
    → Runs (system_calls (files_of before SYSTEM_FILE) s epoch mask) before (Some after) ok
    → ((newer older : List Call) → after ≡ newer ++ older → length before ≤ length older
    → HasRows s least start redo older)
    × HasRows (system_saved s epoch mask) least start redo after

-- a disk that is made ready for a life has the node's rows of what was restored
abbrev pub ReadyDisksHaveRows : Type 0
ReadyDisksHaveRows =
    (shape : Shape) (node : ℕ) (r : Restored) (calls : List Call) (s : SlotsInUse) → IsRecord calls
    → IsReady shape node r calls → slots_in (r.generation + 1) (files_of calls) ≡ Ok (Some s)
    → HasRows s r.epoch (rows_of_node shape node r) [] calls

-- records that commit nothing up to an epoch change nothing up to it
abbrev pub ReplaysStopAtEpochs : Type 0
ReplaysStopAtEpochs =
    (epoch : ℕ) (start : Rows) (newer redo : List Redo) → AreLater epoch newer
    → replayed epoch start (newer ++ redo) ≡ replayed epoch start redo

-- Of disks whose files have bytes, the rows that are restored are such as a checkpoint has.
abbrev pub RestoredRowsAreStorable : Type 0
RestoredRowsAreStorable =
    (shape : Shape) (disks : Disks) (r : Restored) → ((node file : ℕ) → AreBytes (disks node file))
    → restored_of shape disks ≡ Ok r → (node : ℕ) → AreStorable (rows_of_node shape node r)
