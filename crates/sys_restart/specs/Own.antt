-- The rows that a node's disk has of itself.
use Rattle.std.specs.Prelude.{ℕ, ◌==◌, ◌&&◌, Option, None, Some, Result, Ok, Err, if◌then◌else◌}
use Rattle.sig_core.specs.Table.{Rows}
use Rattle.sig_core.specs.declared.fault.ReadFault.{ReadFault}
use Rattle.sig_core.specs.declared.slots.ControlSlot.{ControlSlot}
use Rattle.sig_core.specs.declared.slots.Own.{Own}
use Rattle.sig_core.specs.declared.slots.SystemSlot.{SystemSlot}
use Rattle.sig_core.specs.declared.view.Shape.{Shape}
use Rattle.sysfile_core.specs.declared.place.TheConstants.{CONTROL_FILE, SYSTEM_FILE}
use Rattle.sysfile_core.specs.Reading.{control_of_file, system_of_file}
use Rattle.sys_restart.specs.Files.{Files}
use Rattle.sys_restart.specs.Groups.{is_listed}
use Rattle.sys_restart.specs.Latest.{same_shape}
use Rattle.sys_restart.specs.SlotRows.{rows_of_slot}

abbrev pub own_rows : ℕ → Result Rows ReadFault → Result (Option Own) ReadFault
own_rows epoch (Err fault) = Err fault
own_rows epoch (Ok rows) = Ok (Some (record { epoch = epoch; rows = rows }))

-- those of a control slot, if it was saved at the epoch of the system slot
abbrev pub own_by : SystemSlot → Files → Result (Option ControlSlot) ReadFault → Result (Option Own) ReadFault
own_by system files (Err fault) = Err fault
own_by system files (Ok None) = Ok None
own_by system files (Ok (Some control)) =
    if control.saved == system.epoch then own_rows system.epoch (rows_of_slot system.epoch files control) else Ok None

-- those under a system slot, if it is of the shape and lists the node
abbrev pub own_under : Shape → ℕ → Files → Result (Option SystemSlot) ReadFault → Result (Option Own) ReadFault
own_under shape node files (Err fault) = Err fault
own_under shape node files (Ok None) = Ok None
own_under shape node files (Ok (Some system)) =
    if same_shape system.shape shape && is_listed system.mask node
    then own_by system files (control_of_file system.generation (files CONTROL_FILE)) else Ok None

-- Of the disk of a node of a cluster of a shape: the rows under its slots in use.
unfoldable pub own_of : Shape → ℕ → Files → Result (Option Own) ReadFault
own_of shape node files = own_under shape node files (system_of_file (files SYSTEM_FILE))
