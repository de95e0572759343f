-- The slots with which a life begins.
use Rattle.std.specs.Prelude.{ℕ, ◌-◌, ◌==◌, Option, None, Some, Result, Ok, Err, if◌then◌else◌}
use Rattle.sig_core.specs.declared.fault.ReadFault.{ReadFault}
use Rattle.sig_core.specs.declared.slots.ControlSlot.{ControlSlot}
use Rattle.sig_core.specs.declared.slots.SystemSlot.{SystemSlot}
use Rattle.sysfile_core.specs.declared.place.TheConstants.{CONTROL_FILE, SYSTEM_FILE}
use Rattle.sysfile_core.specs.Reading.{control_of_file, system_of_file}
use Rattle.sys_restart.specs.Files.{Files}
use Rattle.sys_restart.specs.Places.{control_places, free_system}
use Rattle.node_disk.specs.Slots.{SlotsInUse}

-- slots at the places that aren't free
abbrev pub slots_beside : SystemSlot → ℕ → ControlSlot → ℕ → SlotsInUse
slots_beside system free control free_control =
    record { system = system; system_at = 1 - free; control = control; control_at = 1 - free_control }

-- the slots in use of a generation, of which the control slot is
abbrev pub slots_by : ℕ → Option SystemSlot → ℕ → Option ControlSlot → ℕ → Option SlotsInUse
slots_by generation None free control free_control = None
slots_by generation (Some system) free None free_control = None
slots_by generation (Some system) free (Some control) free_control =
    if system.generation == generation then Some (slots_beside system free control free_control) else None

-- the same of what is read; damage of the system file comes first
abbrev pub slots_read : ℕ → Result (Option SystemSlot) ReadFault → ℕ → Result (Option ControlSlot) ReadFault → ℕ
    → Result (Option SlotsInUse) ReadFault
slots_read generation (Err fault) free control free_control = Err fault
slots_read generation (Ok system) free (Err fault) free_control = Err fault
slots_read generation (Ok system) free (Ok control) free_control =
    Ok (slots_by generation system free control free_control)

-- the slots in use of these files, for a life of a generation
abbrev pub slots_in : ℕ → Files → Result (Option SlotsInUse) ReadFault
slots_in generation files =
    slots_read generation (system_of_file (files SYSTEM_FILE)) (free_system (files SYSTEM_FILE))
    (control_of_file generation (files CONTROL_FILE)) (control_places generation (files CONTROL_FILE)).free
