-- What writing and reading a slot are to each other.
use Rattle.std.specs.Prelude.{◌≡◌, None}
use Rattle.sig_core.specs.declared.slots.ControlSlot.{ControlSlot}
use Rattle.sig_core.specs.declared.slots.SystemSlot.{SystemSlot}
use Rattle.sysfile_core.specs.Slots.{IsControlSlot, IsSystemSlot, control_bytes, control_fault, control_of}
use Rattle.sysfile_core.specs.Slots.{system_bytes, system_fault, system_of}

-- the bytes of a system slot are read as that slot
abbrev pub SystemSlotsAreRead : Type 0
SystemSlotsAreRead =
    (s : SystemSlot) → IsSystemSlot s → (system_fault (system_bytes s) ≡ None) × (system_of (system_bytes s) ≡ s)

-- the bytes of a control slot are read as that slot
abbrev pub ControlSlotsAreRead : Type 0
ControlSlotsAreRead =
    (s : ControlSlot) → IsControlSlot s → (control_fault (control_bytes s) ≡ None) × (control_of (control_bytes s) ≡ s)
