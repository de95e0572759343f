-- The calls by which a node saves its rows, and by which it notes an epoch.
use Rattle.std.specs.Prelude.{ℕ, zero, suc, ◌+◌, ◌-◌, min, nat_le, nat_lt, List, [], ◌∷◌, ◌++◌, drop, length, map}
use Rattle.std.specs.Prelude.{replicate, if◌then◌else◌, Some}
use Rattle.host_io.specs.Call.{Call, Synced, Wrote}
use Rattle.host_io.specs.Memory.{one_more}
use Rattle.redo_log.specs.Laws.{GiveOut, pieces_of}
use Rattle.redo_log.specs.LogState.{LogState}
use Rattle.sig_core.specs.declared.piece.Piece.{Piece}
use Rattle.sig_core.specs.declared.ring.TheConstants.{LOG_FILE_BYTES}
use Rattle.sig_core.specs.declared.slots.ControlSlot.{ControlSlot}
use Rattle.sig_core.specs.declared.slots.SystemSlot.{SystemSlot}
use Rattle.sig_core.specs.declared.walk.Finished.{Finished}
use Rattle.sig_core.specs.Ring.{file_of, place_of}
use Rattle.sysfile_core.specs.declared.place.TheConstants.{CONTROL_FILE, SYSTEM_FILE}
use Rattle.sysfile_core.specs.Places as slots
use Rattle.sysfile_core.specs.Slots.{control_bytes, system_bytes}
use Rattle.sysfile_core.specs.Writing.{slot_calls}
use Rattle.sys_restart.specs.Calls.{next_file}
use Rattle.node_disk.specs.Slots.{SlotsInUse}

-- a log that has still these bytes to give out, from a position on
abbrev pub log_with : ℕ → ℕ → List ℕ → LogState
log_with parity from bytes =
    record { generation = 0; parity = parity; start = 0; flushed = from; left = bytes; reserved = 0 }

-- what it gives out when it is asked so many times
abbrev pub pieces_with : ℕ → LogState → List Piece
pieces_with count log = pieces_of (replicate count GiveOut) log

abbrev pub write_of : Piece → Call
write_of piece = Wrote piece.file piece.at piece.bytes

-- the calls that write redo from a position on, in at most so many pieces
unfoldable pub piece_calls : ℕ → ℕ → ℕ → List ℕ → List Call
piece_calls count parity from bytes = map write_of (pieces_with count (log_with parity from bytes))

-- where the file of a position ends, or the redo does
abbrev pub file_end : ℕ → ℕ → ℕ
file_end at end = min (at + (LOG_FILE_BYTES - place_of at)) end

-- a sync of each file that holds redo from a position up to another, of at most so many, one after the other
unfoldable pub sync_calls : ℕ → ℕ → ℕ → ℕ → List Call
sync_calls zero parity at end = []
sync_calls (suc more) parity at end =
    if nat_lt at end then Synced (file_of parity at) ∷ sync_calls more parity (file_end at end) end else []

-- redo is written from a position on, and the files that got some are synced
abbrev pub redo_calls : ℕ → ℕ → List ℕ → List Call
redo_calls parity from bytes =
    piece_calls (length bytes) parity from bytes ++ sync_calls (length bytes) parity from (from + length bytes)

-- and then a control slot is written at its place in a file of these bytes
abbrev pub slot_behind : List ℕ → ℕ → List ℕ → ℕ → ControlSlot → List Call
slot_behind control from bytes which slot =
    redo_calls slot.parity from bytes
    ++ slot_calls control CONTROL_FILE (slots.place_of which) (drop 1 (control_bytes slot))

-- the control slot behind another, of an epoch that is saved up to a position of the redo
abbrev pub saved_control : ControlSlot → ℕ → ℕ → ControlSlot
saved_control slot epoch end = record slot { serial = one_more slot.serial; saved = epoch; redo_end = end }

-- the one that a save of these bytes writes
abbrev pub next_control : SlotsInUse → ℕ → List ℕ → ControlSlot
next_control s epoch bytes = saved_control s.control epoch (s.control.redo_end + length bytes)

-- The calls that save the rows up to an epoch, of which these bytes of redo aren't saved yet: none where the epoch is
-- saved.
abbrev pub rows_calls : List ℕ → SlotsInUse → ℕ → List ℕ → List Call
rows_calls control s epoch bytes =
    if nat_le epoch s.control.saved
    then []
    else slot_behind control s.control.redo_end bytes (1 - s.control_at) (next_control s epoch bytes)

-- the slots in use behind a save of a later epoch, and of any
abbrev pub later_saved : SlotsInUse → ℕ → List ℕ → SlotsInUse
later_saved s epoch bytes = record s { control = next_control s epoch bytes; control_at = 1 - s.control_at }

abbrev pub rows_saved : SlotsInUse → ℕ → List ℕ → SlotsInUse
rows_saved s epoch bytes = if nat_le epoch s.control.saved then s else later_saved s epoch bytes

-- the system slot of an epoch that is durable, at these full members
abbrev pub noted_system : SystemSlot → ℕ → ℕ → SystemSlot
noted_system slot epoch mask = record slot { mask = mask; epoch = epoch }

-- the calls that note it: none where the slot in use is of that epoch or a later one
abbrev pub system_calls : List ℕ → SlotsInUse → ℕ → ℕ → List Call
system_calls system s epoch mask =
    if nat_le epoch s.system.epoch
    then []
    else
    slot_calls system SYSTEM_FILE (slots.place_of (1 - s.system_at))
    (drop 1 (system_bytes (noted_system s.system epoch mask)))

abbrev pub system_saved : SlotsInUse → ℕ → ℕ → SlotsInUse
system_saved s epoch mask =
    if nat_le epoch s.system.epoch
    then s
    else record s { system = noted_system s.system epoch mask; system_at = 1 - s.system_at }

-- the file of checkpoints that isn't in use
abbrev pub free_file : SlotsInUse → ℕ
free_file s = next_file (Some s.control)

-- a piece of a checkpoint on its way is written at its place there, whatever file it names
abbrev pub walk_calls : SlotsInUse → Piece → List Call
walk_calls s piece = Wrote (free_file s) piece.at piece.bytes ∷ []

-- the checkpoint is synced
abbrev pub settle_calls : SlotsInUse → List Call
settle_calls s = Synced (free_file s) ∷ []

-- the control slot behind another that names a checkpoint in this file, and the position from which on redo belongs to
-- it
abbrev pub naming_control : ControlSlot → ℕ → Finished → ControlSlot
naming_control slot file finished =
    record slot {
      ckpt_file = file;
      serial = one_more slot.serial;
      redo_start = finished.from;
      ckpt_size = finished.size;
    }

abbrev pub named_control : SlotsInUse → Finished → ControlSlot
named_control s finished = naming_control s.control (free_file s) finished

-- the calls that bring it into use
abbrev pub name_calls : List ℕ → SlotsInUse → Finished → List Call
name_calls control s finished =
    slot_calls control CONTROL_FILE (slots.place_of (1 - s.control_at))
    (drop 1 (control_bytes (named_control s finished)))

-- the slots in use then
abbrev pub walk_named : SlotsInUse → Finished → SlotsInUse
walk_named s finished = record s { control = named_control s finished; control_at = 1 - s.control_at }
