-- What a local checkpoint on a node's disk leaves of the rows that a restart finds.
use Rattle.std.specs.Prelude.{◌≡◌, ◌⊎◌, ◌≤◌, ℕ, Bool, true, List, ◌++◌, length, Some}
use Rattle.host_io.specs.Call.{Call}
use Rattle.host_io.specs.Image.{LeavesOnly}
use Rattle.redo_log.specs.Stored.{files_of}
use Rattle.sig_core.specs.Table.{Rows}
use Rattle.sig_core.specs.declared.piece.Piece.{Piece}
use Rattle.sig_core.specs.declared.redo.Redo.{Redo}
use Rattle.sig_core.specs.declared.walk.Finished.{Finished}
use Rattle.sysfile_core.specs.declared.place.TheConstants.{CONTROL_FILE}
use Rattle.sysfile_core.specs.Runs.{Runs}
use Rattle.node_disk.specs.Laws.{MayName}
use Rattle.node_disk.specs.Saving.{name_calls, named_control, settle_calls, walk_calls, walk_named}
use Rattle.node_disk.specs.Slots.{SlotsInUse}
use Rattle.node_restart.specs.Rows.{HasRows, NamesRows, RestoresRows}

-- at each moment of a run of calls, and behind it, a disk has these rows
abbrev pub HasRowsThroughout : SlotsInUse → ℕ → Rows → List Redo → List Call → List Call → Type 0
HasRowsThroughout s least start redo before after =
    (newer older : List Call) → after ≡ newer ++ older → length before ≤ length older
    → HasRows s least start redo older

-- while a checkpoint is written, and synced, the rows of the one in use stay
pub record WalksKeepRows : Type 0 where
  pub written :
      (s : SlotsInUse) (piece : Piece) (least : ℕ) (start : Rows) (redo : List Redo) (before after : List Call)
      (ok : Bool) → HasRows s least start redo before → Runs (walk_calls s piece) before (Some after) ok
      → HasRowsThroughout s least start redo before after
  pub settled :
      (s : SlotsInUse) (least : ℕ) (start : Rows) (redo : List Redo) (before after : List Call) (ok : Bool)
      → HasRows s least start redo before → Runs (settle_calls s) before (Some after) ok
      → HasRowsThroughout s least start redo before after

-- Whatever a crash leaves at any moment while it is brought into use, the rows of the one before are restored, or its
-- own. Behind it the disk has these.
abbrev pub NamesKeepRows : Type 0
NamesKeepRows =
    (s : SlotsInUse) (finished : Finished) (least : ℕ) (start own : Rows) (redo kept : List Redo)
    (before after : List Call) (ok : Bool) → HasRows s least start redo before → MayName s finished
    → NamesRows (named_control s finished) finished.epoch own kept before
    → Runs (name_calls (files_of before CONTROL_FILE) s finished) before (Some after) ok
    → LeavesOnly after (length before)
    (λ image. RestoresRows least image s.control start redo
    ⊎ RestoresRows finished.epoch image (named_control s finished) own kept)
    × (ok ≡ true → HasRows (walk_named s finished) finished.epoch own kept after)
