-- The rows of the groups of a cluster.
use Rattle.std.specs.Prelude.{ℕ, zero, suc, ◌+◌, ◌-◌, ◌*◌, ◌/◌, ◌%◌, ◌^◌, ◌==◌, ◌&&◌, nat_le, Bool, true, false, List, [], ◌∷◌, ◌++◌, Option, None, Some, Result, Ok, Err, if◌then◌else◌}
use Rattle.frag_map.specs.Shape.{groups}
use Rattle.sig_core.specs.Table.{Rows}
use Rattle.sig_core.specs.declared.fault.RestartFault.{RestartFault}
use Rattle.sig_core.specs.declared.slots.ControlSlot.{ControlSlot}
use Rattle.sig_core.specs.declared.slots.SystemSlot.{SystemSlot}
use Rattle.sig_core.specs.declared.view.Shape.{Shape}
use Rattle.sysfile_core.specs.declared.place.TheConstants.{CONTROL_FILE, SYSTEM_FILE}
use Rattle.sysfile_core.specs.Owner.{owner_of}
use Rattle.sysfile_core.specs.Reading.{control_of_file}
use Rattle.sys_restart.specs.Answers.{on_node}
use Rattle.sys_restart.specs.Files.{Disks, Files}
use Rattle.sys_restart.specs.Held.{are_held, are_records_held, records_of}
use Rattle.sys_restart.specs.Lack.{lacking}
use Rattle.sys_restart.specs.Outdated.{is_outdated}
use Rattle.sys_restart.specs.Owner.{if_owned}
use Rattle.sys_restart.specs.Same.{are_same}
use Rattle.sys_restart.specs.SlotRows.{rows_of_slot}

-- a mask of full members lists a node
abbrev pub is_listed : ℕ → ℕ → Bool
is_listed mask node = mask / 2 ^ (node - 1) % 2 == 1

-- a control slot that was saved at an epoch or behind it: rows of that epoch may be lacking under another
abbrev pub that_saved : ℕ → Option ControlSlot → Option ControlSlot
that_saved epoch None = None
that_saved epoch (Some slot) = if nat_le epoch slot.saved then Some slot else None

abbrev pub if_saved : ℕ → Result (Option ControlSlot) RestartFault → Result (Option ControlSlot) RestartFault
if_saved epoch (Err fault) = Err fault
if_saved epoch (Ok slot) = Ok (that_saved epoch slot)

-- the control slot in use on a node's disk, if the system slot lists the node and the slot was saved at its epoch
abbrev pub control_on : SystemSlot → ℕ → Files → Result (Option ControlSlot) RestartFault
control_on system node files =
    if is_listed system.mask node
    then if_saved system.epoch (on_node node (control_of_file system.generation (files CONTROL_FILE))) else Ok None

-- of so many nodes the first that is listed, or else another
unfoldable pub first_listed : ℕ → ℕ → ℕ → ℕ → ℕ
first_listed mask other node zero = other
first_listed mask other node (suc more) =
    if is_listed mask node then node else first_listed mask other (node + 1) more

-- rows of a control slot on a node's disk, if the node holds them and the records of the slot's redo: those of another
-- group aren't its own
abbrev pub if_held : Shape → ℕ → Files → ControlSlot → Result Rows RestartFault → Result Rows RestartFault
if_held shape node files slot (Err fault) = Err fault
if_held shape node files slot (Ok rows) =
    if are_held shape node rows && are_records_held shape node (records_of files slot)
    then Ok rows else Err (lacking node CONTROL_FILE files)

-- rows of a node's disk, unless a later system slot than the latest was lost
abbrev pub unless_outdated : ℕ → Files → Bool → Result Rows RestartFault → Result Rows RestartFault
unless_outdated node files true rows = Err (lacking node SYSTEM_FILE files)
unless_outdated node files false rows = rows

-- the rows of a control slot on a node's disk, up to the epoch of a system slot that is the last
abbrev pub current_on : Shape → SystemSlot → ℕ → Files → ControlSlot → Result Rows RestartFault
current_on shape system node files slot =
    unless_outdated node files (is_outdated system.generation system.epoch (files CONTROL_FILE))
    (if_held shape node files slot (on_node node (rows_of_slot system.epoch files slot)))

-- the same, of a control file that is the node's own
abbrev pub rows_on : Shape → SystemSlot → ℕ → Files → ControlSlot → Result Rows RestartFault
rows_on shape system node files slot =
    if_owned node (owner_of (files CONTROL_FILE)) (current_on shape system node files slot)

-- rows that were found on disks of a group, if there were any, and those of one more: they have to be the same
abbrev pub joined : ℕ → Files → Option Rows → Result Rows RestartFault → Result (Option Rows) RestartFault
joined node files found (Err fault) = Err fault
joined node files None (Ok rows) = Ok (Some rows)
joined node files (Some rows) (Ok other) =
    if are_same rows other then Ok (Some rows) else Err (lacking node CONTROL_FILE files)

-- the same of a disk that may have none
abbrev pub also_on : Shape → SystemSlot → ℕ → Files → Option Rows → Result (Option ControlSlot) RestartFault
    → Result (Option Rows) RestartFault
also_on shape system node files found (Err fault) = Err fault
also_on shape system node files found (Ok None) = Ok found
also_on shape system node files found (Ok (Some slot)) = joined node files found (rows_on shape system node files slot)

abbrev pub go_on : (Option Rows → Result (Option Rows) RestartFault) → Result (Option Rows) RestartFault
    → Result (Option Rows) RestartFault
go_on further (Err fault) = Err fault
go_on further (Ok found) = further found

-- The rows that so many nodes of a group have, from one on: those that are listed and have a control slot of the
-- generation that was saved at the epoch. All of these have to have the same.
unfoldable pub rows_among : Shape → Disks → SystemSlot → ℕ → ℕ → Option Rows → Result (Option Rows) RestartFault
rows_among shape disks system node zero found = Ok found
rows_among shape disks system node (suc more) found =
    go_on (rows_among shape disks system (node + 1) more)
    (also_on shape system node (disks node) found (control_on system node (disks node)))

-- rows that were found, or what is wrong without them at this node
abbrev pub rows_or : ℕ → Files → Result (Option Rows) RestartFault → Result Rows RestartFault
rows_or node files (Err fault) = Err fault
rows_or node files (Ok None) = Err (lacking node CONTROL_FILE files)
rows_or node files (Ok (Some rows)) = Ok rows

-- the same at this node of all disks
abbrev pub rows_or_at : Disks → ℕ → Result (Option Rows) RestartFault → Result Rows RestartFault
rows_or_at disks node found = rows_or node (disks node) found

-- the rows of the group whose first node this is
abbrev pub rows_of_group : Shape → Disks → SystemSlot → ℕ → Result Rows RestartFault
rows_of_group shape disks system first =
    rows_or_at disks (first_listed system.mask first first shape.replicas)
    (rows_among shape disks system first shape.replicas None)

-- the rows of groups, and those of one more; what is wrong with the first comes first
abbrev pub and_rows : Result (List Rows) RestartFault → Result Rows RestartFault → Result (List Rows) RestartFault
and_rows (Err fault) part = Err fault
and_rows (Ok rows) (Err fault) = Err fault
and_rows (Ok rows) (Ok part) = Ok (rows ++ part ∷ [])

-- behind the rows of groups those of so many more, from a group on
unfoldable pub rows_from : Shape → Disks → SystemSlot → ℕ → ℕ → Result (List Rows) RestartFault
    → Result (List Rows) RestartFault
rows_from shape disks system group zero rows = rows
rows_from shape disks system group (suc more) rows =
    rows_from shape disks system (group + 1) more
    (and_rows rows (rows_of_group shape disks system (group * shape.replicas + 1)))

-- the rows of each group, the first group first
abbrev pub rows_of_groups : Shape → Disks → SystemSlot → Result (List Rows) RestartFault
rows_of_groups shape disks system = rows_from shape disks system 0 (groups shape) (Ok [])
