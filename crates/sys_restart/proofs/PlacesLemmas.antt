-- Places of slots that were read, where a damaged one counts as none.
use Rattle.std.proofs.Common.{◌≡◌, ◌∙◌, ℕ, ◌≤◌, List, refl, ap, sym, arith}
use Rattle.std.specs.Prelude.{Option, None, Result, Ok, Err, IfErr, IfOk}
use Rattle.host_io.specs.Fault.{Rose}
use Rattle.sig_core.specs.declared.fault.ReadFault.{ReadFault}
use Rattle.sig_core.specs.declared.fault.ReadFault.TheVariants.{Damaged, DiskFault, NoMemory}
use Rattle.sig_core.specs.declared.slots.ControlSlot.{ControlSlot}
use Rattle.sig_core.specs.declared.slots.SystemSlot.{SystemSlot}
use Rattle.sysfile_core.specs.Reading.{HasCause, Reads, control_at, of_generation, system_at}
use Rattle.sys_restart.specs.declared.places.Places.{Places}
use Rattle.sys_restart.specs.Places.{control_places, free_of, free_system, places_of, usable, usable_or_count}

same_ok : {A : Type 0} (x y : A) (read : Result A ℕ) → read ≡ Ok x → read ≡ Ok y → x ≡ y
same_ok x y read one other = cc

not_both : {A : Type 0} (x : A) (count : ℕ) (read : Result A ℕ) → read ≡ Err count → read ≡ Ok x → ⊥
not_both x count read one other = cc

pub usable_is : {S : Type 0} (found read : Result (Option S) ReadFault) (slot : Option S) → Reads found read
    → usable_or_count read ≡ Ok slot → slot ≡ usable found
usable_is found (Ok one) slot reads is = sym (same_ok one slot (Ok one) refl is) ∙ sym (ap usable reads)
usable_is found (Err (DiskFault count)) slot reads is = absurd (not_both slot count (Err count) refl is)
usable_is found (Err (Damaged file at byte)) slot reads is =
    sym (same_ok None slot (Ok None) refl is) ∙ sym (ap usable reads)
usable_is found (Err NoMemory) slot reads is = absurd reads

same_err : {A : Type 0} (x y : ℕ) (read : Result A ℕ) → read ≡ Err x → read ≡ Err y → x ≡ y
same_err x y read one other = cc

pub count_is : {S : Type 0} (before now count : ℕ) (read : Result (Option S) ReadFault) → HasCause before now read
    → usable_or_count read ≡ Err count → Rose before now × (count ≡ now)
count_is before now count (Ok slot) cause is = absurd (not_both slot count (Ok slot) is refl)
count_is before now count (Err (DiskFault one)) cause is =
    (cause.0, sym (same_err one count (Err one) refl is) ∙ cause.1)
count_is before now count (Err (Damaged file at byte)) cause is = absurd (not_both None count (Ok None) is refl)
count_is before now count (Err NoMemory) cause is = absurd cause

-- the same of what is answered
pub usable_reads : {S : Type 0} (found read : Result (Option S) ReadFault) (result : Result (Option S) ℕ)
    → Reads found read → result ≡ usable_or_count read → IfOk result (λ slot. slot ≡ usable found)
usable_reads found read (Ok slot) reads is = usable_is found read slot reads (sym is)
usable_reads found read (Err count) reads is = tt

pub usable_cause : {S : Type 0} (before now : ℕ) (read : Result (Option S) ReadFault) (result : Result (Option S) ℕ)
    → HasCause before now read → result ≡ usable_or_count read
    → IfErr result (λ count. Rose before now × (count ≡ now))
usable_cause before now read (Ok slot) cause is = tt
usable_cause before now read (Err count) cause is = count_is before now count read cause (sym is)

-- a count behind calls that didn't lower it
pub count_after : {A : Type 0} (first before now : ℕ) (result : Result A ℕ) → first ≤ before
    → IfErr result (λ count. Rose before now × (count ≡ now))
    → IfErr result (λ count. Rose first now × (count ≡ now))
count_after first before now (Ok a) less is = tt
count_after first before now (Err count) less is = (omega (arith, less, is.0), is.1)

-- what is found beside a slot that was read
pub free_read : (bytes : List ℕ) (one : Option SystemSlot) (result : Result ℕ ℕ) → one ≡ usable (system_at 0 bytes)
    → IfOk result (λ which. which ≡ free_of one (usable (system_at 1 bytes)))
    → IfOk result (λ which. which ≡ free_system bytes)
free_read bytes one (Ok which) first is = is ∙ ap (λ slot. free_of slot (usable (system_at 1 bytes))) first
free_read bytes one (Err count) first is = tt

pub places_read : (generation : ℕ) (bytes : List ℕ) (one : Option ControlSlot) (result : Result Places ℕ)
    → one ≡ of_generation generation (usable (control_at 0 bytes))
    → IfOk result
    (λ places. places ≡ places_of one (of_generation generation (usable (control_at 1 bytes))))
    → IfOk result (λ places. places ≡ control_places generation bytes)
places_read generation bytes one (Ok places) first is =
    is ∙ ap (λ slot. places_of slot (of_generation generation (usable (control_at 1 bytes)))) first
places_read generation bytes one (Err count) first is = tt

pub of_this : (generation : ℕ) (found slot kept : Option ControlSlot) → slot ≡ found
    → kept ≡ of_generation generation slot → kept ≡ of_generation generation found
of_this generation found slot kept is so = so ∙ ap (of_generation generation) is
