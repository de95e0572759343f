-- Redo is synced before a control slot is written behind it.
use Rattle.std.specs.Prelude.{◌≤◌, ◌<◌, ℕ, ◌+◌, true, List, length, slice_index, Some}
use Rattle.host_io.specs.Call.{Call}
use Rattle.host_io.specs.DiskState.{state_of}
use Rattle.redo_log.specs.Stored.{IsStored, files_of}
use Rattle.redo_log.specs.StoredLaws.{IsSynced}
use Rattle.sig_core.specs.declared.journal.TheConstants.{JOURNAL_BYTES}
use Rattle.sig_core.specs.Ring.{file_of, place_of}
use Rattle.sysfile_core.specs.Runs.{Runs}
use Rattle.node_disk.specs.Saving.{redo_calls}

-- a byte of the redo of a parity stands at its place, and was synced since it was written
pub record IsKept (calls : List Call) (parity position byte : ℕ) : Type 0 where
  pub stored : IsStored (files_of calls) parity position byte
  pub synced : IsSynced (state_of calls (file_of parity position)) (place_of position)

-- The calls that write redo, behind which the slot is written, leave each of its bytes kept, where the ring has room
-- for them; and each one before them that was kept, as far as the ring has it.
abbrev pub RedoIsSyncedFirst : Type 0
RedoIsSyncedFirst =
    (parity from : ℕ) (bytes : List ℕ) (calls after : List Call) → length bytes ≤ JOURNAL_BYTES
    → Runs (redo_calls parity from bytes) calls (Some after) true
    → ((behind : ℕ) → behind < length bytes → IsKept after parity (from + behind) (slice_index bytes behind))
    × ((position byte : ℕ) → position < from → from + length bytes ≤ position + JOURNAL_BYTES
    → IsKept calls parity position byte → IsKept after parity position byte)
