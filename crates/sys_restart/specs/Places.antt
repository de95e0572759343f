-- Which places of slots aren't in use. A damaged slot counts as one that is closed.
use Rattle.std.specs.Prelude.{ℕ, nat_lt, List, Option, None, Some, Result, Ok, Err, if◌then◌else◌}
use Rattle.sig_core.specs.declared.fault.ReadFault.{ReadFault}
use Rattle.sig_core.specs.declared.fault.ReadFault.TheVariants.{Damaged, DiskFault, NoMemory}
use Rattle.sig_core.specs.declared.slots.ControlSlot.{ControlSlot}
use Rattle.sig_core.specs.declared.slots.SystemSlot.{SystemSlot}
use Rattle.sysfile_core.specs.Reading.{control_at, is_earlier, of_generation, system_at}
use Rattle.sys_restart.specs.declared.places.Places.{Places}

-- a slot that was read
abbrev pub usable : {S : Type 0} → Result (Option S) ReadFault → Option S
usable (Ok slot) = slot
usable (Err fault) = None

-- the same, or the count of a disk that failed
abbrev pub usable_or_count : {S : Type 0} → Result (Option S) ReadFault → Result (Option S) ℕ
usable_or_count (Ok slot) = Ok slot
usable_or_count (Err (DiskFault count)) = Err count
usable_or_count (Err (Damaged file at byte)) = Ok None
usable_or_count (Err NoMemory) = Ok None

-- the place of two that isn't that of the slot in use
abbrev pub free_of : Option SystemSlot → Option SystemSlot → ℕ
free_of None other = 0
free_of (Some one) None = 1
free_of (Some one) (Some other) = if is_earlier one other then 0 else 1

-- the place in a system file of these bytes at which the next slot is written
abbrev pub free_system : List ℕ → ℕ
free_system bytes = free_of (usable (system_at 0 bytes)) (usable (system_at 1 bytes))

abbrev pub places : ℕ → Option ControlSlot → Places
places free slot = record { free = free; in_use = slot }

-- the place of two that isn't that of the slot in use, and that slot
abbrev pub places_of : Option ControlSlot → Option ControlSlot → Places
places_of None other = places 0 other
places_of (Some one) None = places 1 (Some one)
places_of (Some one) (Some other) =
    if nat_lt one.serial other.serial then places 0 (Some other) else places 1 (Some one)

-- the place in a control file of these bytes at which the next slot is written, and the slot in use of a generation
abbrev pub control_places : ℕ → List ℕ → Places
control_places generation bytes =
    places_of (of_generation generation (usable (control_at 0 bytes)))
    (of_generation generation (usable (control_at 1 bytes)))
