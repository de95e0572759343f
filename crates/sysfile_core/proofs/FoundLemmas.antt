-- Slots that stand open at a place are those of the file.
use Rattle.std.proofs.Common.{◌≡◌, ◌∙◌, ℕ, Bool, true, List, ap, sym, if◌then◌else◌}
use Rattle.std.specs.Prelude.{Option, None, Some, Result, Ok, Err}
use Rattle.sig_core.specs.declared.fault.ReadFault.{ReadFault}
use Rattle.sig_core.specs.declared.fault.ReadFault.TheVariants.{Damaged, DiskFault, NoMemory}
use Rattle.sig_core.specs.declared.slots.ControlSlot.{ControlSlot}
use Rattle.sig_core.specs.declared.slots.SystemSlot.{SystemSlot}
use Rattle.sysfile_core.specs.declared.control.TheConstants.{CONTROL_BYTES}
use Rattle.sysfile_core.specs.declared.system.TheConstants.{SYSTEM_BYTES}
use Rattle.sysfile_core.specs.Places.{place_of, slot_at}
use Rattle.sysfile_core.specs.Reading.{HasCause, Reads, control_at, control_by, control_in, system_at, system_by}
use Rattle.sysfile_core.specs.Reading.{system_in}

-- what bytes say is read of them
reads_itself : {S : Type 0} (found result : Result (Option S) ReadFault)
    → ((before now : ℕ) → HasCause before now result)
    → found ≡ result → Reads found result
reads_itself found (Ok slot) cause is = is
reads_itself found (Err (DiskFault count)) cause is = tt
reads_itself found (Err NoMemory) cause is = absurd (cause 0 0)
reads_itself found (Err (Damaged file at byte)) cause is = is

-- an open slot of which these are the bytes
opened : (found : Option (List ℕ)) (new : List ℕ) (gate : Bool) → found ≡ (if gate then Some new else None)
    → gate ≡ true → found ≡ Some new
opened found new gate is so = is ∙ ap (λ (b : Bool). if b then Some new else None) so

pub system_found : (bytes new : List ℕ) (which at size : ℕ) (gate : Bool)
    (result : Result (Option SystemSlot) ReadFault)
    → at ≡ place_of which → size ≡ SYSTEM_BYTES → slot_at at size bytes ≡ (if gate then Some new else None)
    → gate ≡ true
    → result ≡ system_in (place_of which) new → ((before now : ℕ) → HasCause before now result)
    → Reads (system_at which bytes) result
system_found bytes new which at size gate result place long is so told cause =
    reads_itself (system_at which bytes) result cause
    (ap (λ (p : ℕ). system_by (place_of which) (slot_at p SYSTEM_BYTES bytes)) (sym place)
    ∙ ap (λ (n : ℕ). system_by (place_of which) (slot_at at n bytes)) (sym long)
    ∙ ap (system_by (place_of which)) (opened (slot_at at size bytes) new gate is so)
    ∙ sym told)

pub control_found : (bytes new : List ℕ) (which at size : ℕ) (gate : Bool)
    (result : Result (Option ControlSlot) ReadFault)
    → at ≡ place_of which → size ≡ CONTROL_BYTES → slot_at at size bytes ≡ (if gate then Some new else None)
    → gate ≡ true
    → result ≡ control_in (place_of which) new → ((before now : ℕ) → HasCause before now result)
    → Reads (control_at which bytes) result
control_found bytes new which at size gate result place long is so told cause =
    reads_itself (control_at which bytes) result cause
    (ap (λ (p : ℕ). control_by (place_of which) (slot_at p CONTROL_BYTES bytes)) (sym place)
    ∙ ap (λ (n : ℕ). control_by (place_of which) (slot_at at n bytes)) (sym long)
    ∙ ap (control_by (place_of which)) (opened (slot_at at size bytes) new gate is so)
    ∙ sym told)
