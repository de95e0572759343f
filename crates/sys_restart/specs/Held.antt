-- Rows and records that are of the group of the node on whose disk they are.
use Rattle.std.specs.Prelude.{ℕ, ◌-◌, Bool, List, [], length}
use Rattle.std.specs.FinMap as finmap
use Rattle.std.specs.List.{list_all}
use Rattle.frag_map.specs.Layout.{holds}
use Rattle.sig_core.specs.Table.{Rows}
use Rattle.sig_core.specs.declared.redo.Redo.{Redo}
use Rattle.sig_core.specs.declared.redo.Redo.TheVariants.{Abort, Commit, Prepare}
use Rattle.sig_core.specs.declared.slots.ControlSlot.{ControlSlot}
use Rattle.sig_core.specs.declared.view.Shape.{Shape}
use Rattle.sys_restart.specs.Files.{Files}
use Rattle.sys_restart.specs.Redone.{log_of, records_in}

-- the node holds the key of a row
abbrev pub is_held : Shape → ℕ → List ℕ × List ℕ → Bool
is_held shape node row = holds shape node row.0

-- it holds the keys of all rows
abbrev pub are_held : Shape → ℕ → Rows → Bool
are_held shape node rows = list_all (is_held shape node) (finmap.entries rows)

-- the key of a record
abbrev pub key_of : Redo → List ℕ
key_of (Prepare tx fragment key image) = key
key_of (Commit tx epoch key) = key
key_of (Abort tx key) = key

-- the records that bytes begin with, the newest first
abbrev pub newest_in : List ℕ → List Redo
newest_in bytes = (records_in (length bytes) [] bytes).newest

-- those of the redo that a control slot names, as files have it
abbrev pub records_of : Files → ControlSlot → List Redo
records_of files slot = newest_in (log_of files slot.parity slot.redo_start (slot.redo_end - slot.redo_start))

-- the node holds the key of a record
abbrev pub holds_record : Shape → ℕ → Redo → Bool
holds_record shape node redo = holds shape node (key_of redo)

abbrev pub are_records_held : Shape → ℕ → List Redo → Bool
are_records_held shape node records = list_all (holds_record shape node) records
