-- What a cluster restarts with.
use Rattle.std.specs.Prelude.{List, replicate, Option, None, Some, Result, Ok, Err}
use Rattle.std.specs.FinMap as map
use Rattle.frag_map.specs.Shape.{groups}
use Rattle.sig_core.specs.Table.{Rows}
use Rattle.sig_core.specs.declared.fault.RestartFault.{RestartFault}
use Rattle.sig_core.specs.declared.slots.SystemSlot.{SystemSlot}
use Rattle.sig_core.specs.declared.view.Shape.{Shape}
use Rattle.sys_restart.specs.declared.restored.Restored.{Restored}
use Rattle.sys_restart.specs.Files.{Disks}
use Rattle.sys_restart.specs.Groups.{rows_of_groups}
use Rattle.sys_restart.specs.Latest.{latest_of}
use Rattle.sys_restart.specs.Lost.{none_lost}

-- what disks have that were never written: groups without rows
abbrev pub nothing : Shape → Restored
nothing shape = record { generation = 0; epoch = 0; groups = replicate (groups shape) map.empty }

-- the same, unless rows were saved on them
abbrev pub nothing_by : Shape → Result (Unit {0}) RestartFault → Result Restored RestartFault
nothing_by shape (Err fault) = Err fault
nothing_by shape (Ok none) = Ok (nothing shape)

abbrev pub with_rows : SystemSlot → Result (List Rows) RestartFault → Result Restored RestartFault
with_rows system (Err fault) = Err fault
with_rows system (Ok rows) = Ok (record { generation = system.generation; epoch = system.epoch; groups = rows })

abbrev pub restored_by : Shape → Disks → Result (Option SystemSlot) RestartFault → Result Restored RestartFault
restored_by shape disks (Err fault) = Err fault
restored_by shape disks (Ok None) = nothing_by shape (none_lost disks 1 shape.nodes)
restored_by shape disks (Ok (Some system)) = with_rows system (rows_of_groups shape disks system)

-- Of the disks of a cluster of a shape: the generation and the epoch of the latest system slot, and the rows of each
-- group in this epoch. Where no disk has one, but rows were saved on some, they are all lost.
unfoldable pub restored_of : Shape → Disks → Result Restored RestartFault
restored_of shape disks = restored_by shape disks (latest_of shape disks)
