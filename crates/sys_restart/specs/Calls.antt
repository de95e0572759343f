-- The calls by which the disk of a node is made ready for the next life of its cluster.
use Rattle.std.specs.Prelude.{◌≡◌, ℕ, zero, suc, ◌+◌, ◌-◌, ◌/◌, ◌^◌, ◌==◌, ◌||◌, max, nat_lt, Bool, true, false, List, [], ◌∷◌, ◌++◌, map, take, drop, length, get_or, Option, None, Some, Result, Ok, Err, if◌then◌else◌}
use Rattle.std.specs.FinMap as finmap
use Rattle.std.specs.List.{flat_map}
use Rattle.frag_map.specs.Shape.{group_of}
use Rattle.host_io.specs.Call.{Call, Synced, Wrote}
use Rattle.redo_log.specs.Stored.{files_of}
use Rattle.sig_core.specs.Checkpoint.{head_bytes, row_bytes}
use Rattle.sig_core.specs.Table.{Rows}
use Rattle.sig_core.specs.declared.fault.RestartFault.{RestartFault}
use Rattle.sig_core.specs.declared.fault.RestartFault.TheVariants.{DiskFault, NoMemory}
use Rattle.sig_core.specs.declared.piece.TheConstants.{PIECE_BYTES}
use Rattle.sig_core.specs.declared.slots.ControlSlot.{ControlSlot}
use Rattle.sig_core.specs.declared.slots.SystemSlot.{SystemSlot}
use Rattle.sig_core.specs.declared.stored_row.StoredRow.{StoredRow}
use Rattle.sig_core.specs.declared.view.Shape.{Shape}
use Rattle.sysfile_core.specs.declared.control.TheConstants.{CONTROL_BYTES}
use Rattle.sysfile_core.specs.declared.place.TheConstants.{CLOSED, CONTROL_FILE, SYSTEM_FILE}
use Rattle.sysfile_core.specs.Owner.{owner_calls}
use Rattle.sysfile_core.specs.Places.{place_of}
use Rattle.sysfile_core.specs.Runs.{Runs}
use Rattle.sysfile_core.specs.Slots.{control_bytes, system_bytes}
use Rattle.sysfile_core.specs.Writing.{slot_calls}
use Rattle.sys_restart.specs.declared.places.Places.{Places}
use Rattle.sys_restart.specs.declared.restored.Restored.{Restored}
use Rattle.sys_restart.specs.Places.{control_places, free_system}

-- No life can follow: the generation is the last, or the checkpoint number of the epoch, which is its upper half.
abbrev pub is_used_up : Restored → Bool
is_used_up r = (r.generation == 2 ^ 64 - 1) || (r.epoch / 2 ^ 32 == 2 ^ 32 - 1)

abbrev pub row_at : ℕ → List ℕ × List ℕ → StoredRow
row_at epoch row = record { key = row.0; epoch = Some epoch; value = row.1 }

-- the rows of a node's group
abbrev pub rows_of_node : Shape → ℕ → Restored → Rows
rows_of_node shape node r = get_or r.groups (group_of shape node) finmap.empty

-- rows as of an epoch, in byte order of their keys
abbrev pub stored_rows : ℕ → Rows → List StoredRow
stored_rows epoch rows = map (row_at epoch) (finmap.entries rows)

-- the checkpoint with which a node begins
unfoldable pub checkpoint_for : Shape → ℕ → Restored → List ℕ
checkpoint_for shape node r = head_bytes ++ flat_map row_bytes (stored_rows r.epoch (rows_of_node shape node r))

-- the checkpoint file, and the parity of the redo files, that aren't in use
abbrev pub next_file : Option ControlSlot → ℕ
next_file None = 2
next_file (Some slot) = if slot.ckpt_file == 2 then 3 else 2

abbrev pub next_parity : Option ControlSlot → ℕ
next_parity None = 0
next_parity (Some slot) = if slot.parity == 0 then 1 else 0

-- the control slot that is the first of the next generation; its log is empty
abbrev pub next_slot : Restored → Option ControlSlot → ℕ → ControlSlot
next_slot r in_use size = record {
  ckpt_file = next_file in_use;
  parity = next_parity in_use;
  generation = r.generation + 1;
  serial = 1;
  saved = r.epoch;
  redo_start = 0;
  redo_end = 0;
  ckpt_size = size;
}

-- the system slot that names the next life, and lists all nodes
abbrev pub next_system : Shape → Restored → SystemSlot
next_system shape r =
    record { shape = shape; mask = 2 ^ shape.nodes - 1; generation = r.generation + 1; epoch = r.epoch }

-- the calls that write bytes to a file from a place on, in at most so many pieces
unfoldable pub piece_calls : ℕ → ℕ → ℕ → List ℕ → List Call
piece_calls zero file at bytes = []
piece_calls (suc more) file at [] = []
piece_calls (suc more) file at (byte ∷ bytes) =
    Wrote file at (take PIECE_BYTES (byte ∷ bytes))
    ∷ piece_calls more file (at + PIECE_BYTES) (drop PIECE_BYTES (byte ∷ bytes))

-- those that write bytes to a file, and sync it
abbrev pub file_calls : ℕ → List ℕ → List Call
file_calls file bytes = piece_calls (length bytes) file 0 bytes ++ Synced file ∷ []

-- The calls that close the gate at the second place of a control file that ends before a slot there would. What a crash
-- leaves beyond the synced end of a file may be any bytes: of a file that grows over the place it might leave an open
-- slot there, were its gate not closed before.
abbrev pub closing_second : ℕ → List Call
closing_second size =
    if nat_lt size (place_of 1 + CONTROL_BYTES)
    then Wrote CONTROL_FILE (place_of 1) (CLOSED ∷ []) ∷ Synced CONTROL_FILE ∷ [] else []

-- those by which a control file of this size, which had these bytes before the slot was written, is made a node's own
abbrev pub own_calls : ℕ → ℕ → List ℕ → List Call
own_calls node size control = closing_second size ++ owner_calls node control

-- Those that write a control slot at a place of a control file of these bytes, which is then made the node's own.
abbrev pub control_calls : ℕ → List ℕ → ℕ → ControlSlot → List Call
control_calls node control which slot =
    slot_calls control CONTROL_FILE (place_of which) (drop 1 (control_bytes slot))
    ++ own_calls node (max (length control) (place_of which + CONTROL_BYTES)) control

-- those that write a checkpoint, and these behind it
abbrev pub write_calls : ℕ → List ℕ → ℕ → ControlSlot → List ℕ → List Call
write_calls node control which slot bytes =
    file_calls slot.ckpt_file bytes ++ control_calls node control which slot

abbrev pub node_calls_at : ℕ → List ℕ → Places → Restored → List ℕ → List Call
node_calls_at node control places r bytes =
    write_calls node control places.free (next_slot r places.in_use (length bytes)) bytes

-- the calls that prepare a node, whose disk has this record
abbrev pub node_calls : List Call → Shape → ℕ → Restored → List Call
node_calls calls shape node r =
    node_calls_at node (files_of calls CONTROL_FILE) (control_places r.generation (files_of calls CONTROL_FILE)) r
    (checkpoint_for shape node r)

-- the calls that name the next life on a node's disk
abbrev pub name_calls : List Call → Shape → Restored → List Call
name_calls calls shape r =
    slot_calls (files_of calls SYSTEM_FILE) SYSTEM_FILE (place_of (free_system (files_of calls SYSTEM_FILE)))
    (drop 1 (system_bytes (next_system shape r)))

-- The calls are made, up to the first that fails. Where memory is wanting none is made.
abbrev pub RunsOrWants : List Call → List Call → Option (List Call) → Result (Unit {0}) RestartFault → Type 0
RunsOrWants asks calls told (Ok done) = Runs asks calls told true
RunsOrWants asks calls told (Err NoMemory) = told ≡ Some calls
RunsOrWants asks calls told (Err (DiskFault node count)) = Runs asks calls told false
RunsOrWants asks calls told (Err fault) = ⊥
