-- The system slot from which a cluster restarts.
use Rattle.std.specs.Prelude.{ℕ, zero, suc, ◌+◌, ◌==◌, ◌&&◌, Bool, Option, None, Some, Result, Ok, Err, if◌then◌else◌}
use Rattle.sig_core.specs.declared.fault.ReadFault.{ReadFault}
use Rattle.sig_core.specs.declared.fault.RestartFault.{RestartFault}
use Rattle.sig_core.specs.declared.fault.RestartFault.TheVariants.{OtherShape}
use Rattle.sig_core.specs.declared.slots.SystemSlot.{SystemSlot}
use Rattle.sig_core.specs.declared.view.Shape.{Shape}
use Rattle.sysfile_core.specs.declared.place.TheConstants.{SYSTEM_FILE}
use Rattle.sysfile_core.specs.Reading.{later_system, system_at}
use Rattle.sys_restart.specs.Answers.{of_node}
use Rattle.sys_restart.specs.Files.{Disks, Files}

abbrev pub same_shape : Shape → Shape → Bool
same_shape one other =
    (one.nodes == other.nodes) && (one.replicas == other.replicas) && (one.fragments == other.fragments)

-- a system slot that was read on a node's disk, unless it is of another shape
abbrev pub of_shape : Shape → ℕ → Result (Option SystemSlot) ReadFault → Result (Option SystemSlot) RestartFault
of_shape shape node (Err fault) = Err (of_node node fault)
of_shape shape node (Ok None) = Ok None
of_shape shape node (Ok (Some slot)) =
    if same_shape slot.shape shape then Ok (Some slot) else Err (OtherShape slot.shape shape)

-- the later of two that were read; what is wrong with the first comes first
abbrev pub later : Result (Option SystemSlot) RestartFault → Result (Option SystemSlot) RestartFault
    → Result (Option SystemSlot) RestartFault
later (Err fault) other = Err fault
later (Ok one) (Err fault) = Err fault
later (Ok one) (Ok other) = Ok (later_system one other)

-- the later of the two that a node's disk has
abbrev pub latest_on : Shape → ℕ → Files → Result (Option SystemSlot) RestartFault
latest_on shape node files =
    later (of_shape shape node (system_at 0 (files SYSTEM_FILE)))
    (of_shape shape node (system_at 1 (files SYSTEM_FILE)))

-- the latest of one that was found and those of so many nodes
unfoldable pub latest_from : Shape → Disks → ℕ → ℕ → Result (Option SystemSlot) RestartFault
    → Result (Option SystemSlot) RestartFault
latest_from shape disks node zero found = found
latest_from shape disks node (suc more) found =
    latest_from shape disks (node + 1) more (later found (latest_on shape node (disks node)))

-- the latest of all nodes
abbrev pub latest_of : Shape → Disks → Result (Option SystemSlot) RestartFault
latest_of shape disks = latest_from shape disks 1 shape.nodes (Ok None)
