-- What the bytes of a file are read as.
use Rattle.std.specs.Prelude.{◌≡◌, ℕ, ◌+◌, ◌==◌, ◌&&◌, ◌||◌, Bool, nat_lt, List, slice_index, Option, None, Some}
use Rattle.std.specs.Prelude.{Result, Ok, Err, if◌then◌else◌}
use Rattle.host_io.specs.Fault.{Rose}
use Rattle.sig_core.specs.declared.slots.ControlSlot.{ControlSlot}
use Rattle.sysfile_core.specs.declared.control.TheConstants.{CONTROL_BYTES}
use Rattle.sig_core.specs.declared.fault.ReadFault.{ReadFault}
use Rattle.sig_core.specs.declared.fault.ReadFault.TheVariants.{Damaged, DiskFault, NoMemory}
use Rattle.sysfile_core.specs.declared.place.TheConstants.{CONTROL_FILE, SYSTEM_FILE}
use Rattle.sig_core.specs.declared.slots.SystemSlot.{SystemSlot}
use Rattle.sysfile_core.specs.declared.system.TheConstants.{SYSTEM_BYTES}
use Rattle.sysfile_core.specs.Places.{place_of, slot_at}
use Rattle.sysfile_core.specs.Slots.{control_fault, control_of, system_fault, system_of}

-- the slot that is read of these bytes, of which this is the first byte that doesn't fit, or none
abbrev pub unless_damaged : {S : Type 0} → ℕ → ℕ → List ℕ → S → Option ℕ → Result (Option S) ReadFault
unless_damaged file place bytes slot None = Ok (Some slot)
unless_damaged file place bytes slot (Some at) = Err (Damaged file (place + at) (slice_index bytes at))

-- the system slot of these bytes
unfoldable pub system_in : ℕ → List ℕ → Result (Option SystemSlot) ReadFault
system_in place bytes = unless_damaged SYSTEM_FILE place bytes (system_of bytes) (system_fault bytes)

-- that of an open slot, if there is one
abbrev pub system_by : ℕ → Option (List ℕ) → Result (Option SystemSlot) ReadFault
system_by place None = Ok None
system_by place (Some bytes) = system_in place bytes

-- the system slot at a place of the file
abbrev pub system_at : ℕ → List ℕ → Result (Option SystemSlot) ReadFault
system_at which bytes = system_by (place_of which) (slot_at (place_of which) SYSTEM_BYTES bytes)

-- a slot is of a lesser generation, or of a lesser epoch of the same
abbrev pub is_earlier : SystemSlot → SystemSlot → Bool
is_earlier one other =
    nat_lt one.generation other.generation || ((one.generation == other.generation) && nat_lt one.epoch other.epoch)

-- the later of two, the first where neither is earlier
abbrev pub later_system : Option SystemSlot → Option SystemSlot → Option SystemSlot
later_system None other = other
later_system (Some one) None = Some one
later_system (Some one) (Some other) = if is_earlier one other then Some other else Some one

-- of two that were read; damage of the first comes first
abbrev pub later_of : Result (Option SystemSlot) ReadFault → Result (Option SystemSlot) ReadFault
    → Result (Option SystemSlot) ReadFault
later_of (Err fault) other = Err fault
later_of (Ok one) (Err fault) = Err fault
later_of (Ok one) (Ok other) = Ok (later_system one other)

-- the system slot in use: the latest that is open
abbrev pub system_of_file : List ℕ → Result (Option SystemSlot) ReadFault
system_of_file bytes = later_of (system_at 0 bytes) (system_at 1 bytes)

-- the control slot of these bytes
unfoldable pub control_in : ℕ → List ℕ → Result (Option ControlSlot) ReadFault
control_in place bytes = unless_damaged CONTROL_FILE place bytes (control_of bytes) (control_fault bytes)

abbrev pub control_by : ℕ → Option (List ℕ) → Result (Option ControlSlot) ReadFault
control_by place None = Ok None
control_by place (Some bytes) = control_in place bytes

-- the control slot at a place of the file
abbrev pub control_at : ℕ → List ℕ → Result (Option ControlSlot) ReadFault
control_at which bytes = control_by (place_of which) (slot_at (place_of which) CONTROL_BYTES bytes)

-- a slot, if it is of this generation
abbrev pub of_generation : ℕ → Option ControlSlot → Option ControlSlot
of_generation generation None = None
of_generation generation (Some slot) = if slot.generation == generation then Some slot else None

-- the one with the greater serial, the first where they are the same
abbrev pub later_control : Option ControlSlot → Option ControlSlot → Option ControlSlot
later_control None other = other
later_control (Some one) None = Some one
later_control (Some one) (Some other) = if nat_lt one.serial other.serial then Some other else Some one

abbrev pub later_by : ℕ → Result (Option ControlSlot) ReadFault → Result (Option ControlSlot) ReadFault
    → Result (Option ControlSlot) ReadFault
later_by generation (Err fault) other = Err fault
later_by generation (Ok one) (Err fault) = Err fault
later_by generation (Ok one) (Ok other) =
    Ok (later_control (of_generation generation one) (of_generation generation other))

-- the control slot in use: the open one of this generation with the greatest serial
abbrev pub control_of_file : ℕ → List ℕ → Result (Option ControlSlot) ReadFault
control_of_file generation bytes = later_by generation (control_at 0 bytes) (control_at 1 bytes)

-- the answer is that of the bytes, unless the disk failed; it wants no memory
abbrev pub Reads : {S : Type 0} → Result (Option S) ReadFault → Result (Option S) ReadFault → Type 0
Reads found (Err (DiskFault count)) = Unit {0}
Reads found (Err NoMemory) = ⊥
Reads found (Err (Damaged file at byte)) = found ≡ Err (Damaged file at byte)
Reads found (Ok slot) = found ≡ Ok slot

-- a fault of the disk is answered only where its count rose, with the count
abbrev pub HasCause : {S : Type 0} → ℕ → ℕ → Result (Option S) ReadFault → Type 0
HasCause before now (Err (DiskFault count)) = Rose before now × (count ≡ now)
HasCause before now (Err (Damaged file at byte)) = Unit {0}
HasCause before now (Err NoMemory) = ⊥
HasCause before now (Ok slot) = Unit {0}
