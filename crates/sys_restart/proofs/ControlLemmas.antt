-- The control slots of a file, of which one is in use, and what is lost of it where the other is written.
use Rattle.std.proofs.Common.{◌≡◌, ◌∙◌, ◌⊎◌, ℕ, ◌≤◌, ◌==◌, Bool, true, false, nat_lt, not, List, refl, ap, sym, subst, arith, inl, inr, if◌then◌else◌}
use Rattle.std.specs.Prelude.{Option, None, Some, Result, Ok, Err, ◌||◌}
use Rattle.std.proofs.lemmas.Bool.{ltb-false, true≢false}
use Rattle.sig_core.specs.declared.fault.ReadFault.{ReadFault}
use Rattle.sig_core.specs.declared.slots.ControlSlot.{ControlSlot}
use Rattle.sysfile_core.specs.declared.control.TheConstants.{CONTROL_BYTES}
use Rattle.sysfile_core.specs.declared.place.TheConstants.{CONTROL_FILE}
use Rattle.sysfile_core.specs.Places.{place_of, slot_at}
use Rattle.sysfile_core.specs.Reading.{control_at, control_by, control_in, control_of_file, later_by, later_control, of_generation, unless_damaged}
use Rattle.sysfile_core.specs.Slots.{control_fault, control_of}
use Rattle.sys_restart.specs.declared.places.Places.{Places}
use Rattle.sys_restart.specs.Places.{control_places, places, places_of, usable}
use Rattle.sys_restart.proofs.AlikeLemmas.{no_answer, not_none, same_answer, same_some}

-- a slot that is read names one of the two checkpoint files, and redo of one of the two parities
pub record NamesFiles (slot : ControlSlot) : Type 0 where
  pub least : 2 ≤ slot.ckpt_file
  pub most : slot.ckpt_file ≤ 3
  pub parity : slot.parity ≤ 1

neither : (a b : Bool) → (a || b) ≡ false → (a ≡ false) × (b ≡ false)
neither true b is = absurd (true≢false is)
neither false b is = (refl, is)

fits_so_far : (version file parity : Bool) (rest : Option ℕ)
    → (if not version then Some 1 else if file then Some 2 else if parity then Some 3 else rest) ≡ None
    → (file ≡ false) × (parity ≡ false)
fits_so_far false file parity rest is = absurd (not_none 1 _ is refl)
fits_so_far true true parity rest is = absurd (not_none 2 _ is refl)
fits_so_far true false true rest is = absurd (not_none 3 _ is refl)
fits_so_far true false false rest is = (refl, refl)

fit_names : (bytes : List ℕ) → control_fault bytes ≡ None → NamesFiles (control_of bytes)
unfolding control_fault
fit_names bytes none =
    let fits = fits_so_far _ _ _ _ none in
    let file = neither _ _ fits.0 in record {
      least = ltb-false _ _ file.0;
      most = ltb-false _ _ file.1;
      parity = ltb-false _ _ fits.1;
    }

names_in : (place : ℕ) (bytes : List ℕ) (slot : ControlSlot) → control_in place bytes ≡ Ok (Some slot) → NamesFiles slot
unfolding control_in
names_in place bytes slot is = by (control_fault bytes) refl
  where
    by : (fault : Option ℕ) → control_fault bytes ≡ fault → NamesFiles slot
    by (Some at) e =
        absurd (no_answer _ (Some slot) _ (ap (unless_damaged CONTROL_FILE place bytes (control_of bytes)) e) is)
    by None e =
        let found : Some (control_of bytes) ≡ Some slot =
        same_answer (Some (control_of bytes)) (Some slot) _
        (ap (unless_damaged CONTROL_FILE place bytes (control_of bytes)) e) is in
        let same : control_of bytes ≡ slot = same_some (control_of bytes) slot _ refl found in
        subst NamesFiles same (fit_names bytes e)

names_at : (which : ℕ) (bytes : List ℕ) (slot : ControlSlot) → control_at which bytes ≡ Ok (Some slot) → NamesFiles slot
names_at which bytes slot is = by (slot_at (place_of which) CONTROL_BYTES bytes) is
  where
    by : (found : Option (List ℕ)) → control_by (place_of which) found ≡ Ok (Some slot) → NamesFiles slot
    by None is = absurd (not_none slot _ refl (same_answer None (Some slot) _ refl is))
    by (Some found) is = names_in (place_of which) found slot is

-- both slots of a file are read, and the later one of them is in use
pub record AreRead (generation : ℕ) (bytes : List ℕ) (slot : Option ControlSlot) : Type 0 where
  pub one : Option ControlSlot
  pub other : Option ControlSlot
  pub first : control_at 0 bytes ≡ Ok one
  pub second : control_at 1 bytes ≡ Ok other
  pub later : later_control (of_generation generation one) (of_generation generation other) ≡ slot

pub both_read : (generation : ℕ) (bytes : List ℕ) (slot : Option ControlSlot)
    → control_of_file generation bytes ≡ Ok slot → AreRead generation bytes slot
both_read generation bytes slot is = by (control_at 0 bytes) (control_at 1 bytes) refl refl
  where
    by : (a b : Result (Option ControlSlot) ReadFault) → control_at 0 bytes ≡ a → control_at 1 bytes ≡ b
        → AreRead generation bytes slot
    by (Err fault) b e f =
        absurd (no_answer fault slot _ (ap (λ read. later_by generation read (control_at 1 bytes)) e) is)
    by (Ok one) (Err fault) e f =
        absurd (no_answer fault slot _
        (ap (λ read. later_by generation read (control_at 1 bytes)) e ∙ ap (later_by generation (Ok one)) f) is)
    by (Ok one) (Ok other) e f = record {
      one = one;
      other = other;
      first = e;
      second = f;
      later = same_answer _ slot _
          (ap (λ read. later_by generation read (control_at 1 bytes)) e ∙ ap (later_by generation (Ok one)) f) is;
    }

pub both_are : (generation : ℕ) (bytes : List ℕ) (one other : Option ControlSlot) → control_at 0 bytes ≡ Ok one
    → control_at 1 bytes ≡ Ok other
    → control_of_file generation bytes
    ≡ Ok (later_control (of_generation generation one) (of_generation generation other))
both_are generation bytes one other e f =
    ap (λ read. later_by generation read (control_at 1 bytes)) e ∙ ap (later_by generation (Ok one)) f

kept_by : (generation : ℕ) (one slot : ControlSlot) (is : Bool) → (if is then Some one else None) ≡ Some slot
    → one ≡ slot
kept_by generation one slot true is = same_some one slot _ refl is
kept_by generation one slot false is = absurd (not_none slot _ refl is)

of_this_generation : (generation : ℕ) (one : Option ControlSlot) (slot : ControlSlot)
    → of_generation generation one ≡ Some slot → one ≡ Some slot
of_this_generation generation None slot is = absurd (not_none slot _ refl is)
of_this_generation generation (Some one) slot is =
    ap Some (kept_by generation one slot (one.generation == generation) is)

later_is_one : (a b : Option ControlSlot) (slot : ControlSlot) → later_control a b ≡ Some slot
    → (a ≡ Some slot) ⊎ (b ≡ Some slot)
later_is_one None b slot is = inr is
later_is_one (Some one) None slot is = inl is
later_is_one (Some one) (Some other) slot is = by (nat_lt one.serial other.serial) is
  where
    by : (less : Bool) → (if less then Some other else Some one) ≡ Some slot
        → (Some one ≡ Some slot) ⊎ (Some other ≡ Some slot)
    by true is = inr is
    by false is = inl is

-- the slot in use names files
pub in_use_names : (generation : ℕ) (bytes : List ℕ) (slot : ControlSlot)
    → control_of_file generation bytes ≡ Ok (Some slot) → NamesFiles slot
in_use_names generation bytes slot is =
    let read = both_read generation bytes (Some slot) is in
    elim (later_is_one _ _ slot read.later) [
      | inl first ↦
          names_at 0 bytes slot (read.first ∙ ap Ok (of_this_generation generation read.one slot first))
      | inr second ↦
          names_at 1 bytes slot (read.second ∙ ap Ok (of_this_generation generation read.other slot second))
    ]

-- which slot is in use, and which place is free
later_in_use : (a b : Option ControlSlot) → (places_of a b).in_use ≡ later_control a b
later_in_use None b = refl
later_in_use (Some one) None = refl
later_in_use (Some one) (Some other) = by (nat_lt one.serial other.serial)
  where
    by : (less : Bool) → (if less then places 0 (Some other) else places 1 (Some one)).in_use
        ≡ (if less then Some other else Some one)
    by true = refl
    by false = refl

pub places_are : (generation : ℕ) (bytes : List ℕ) (one other : Option ControlSlot) → control_at 0 bytes ≡ Ok one
    → control_at 1 bytes ≡ Ok other
    → control_places generation bytes ≡ places_of (of_generation generation one) (of_generation generation other)
places_are generation bytes one other e f =
    ap
    (λ read. places_of (of_generation generation (usable read))
    (of_generation generation (usable (control_at 1 bytes))))
    e
    ∙ ap (λ read. places_of (of_generation generation one) (of_generation generation (usable read))) f

pub in_use_is : (generation : ℕ) (bytes : List ℕ) (slot : Option ControlSlot)
    → control_of_file generation bytes ≡ Ok slot → (control_places generation bytes).in_use ≡ slot
in_use_is generation bytes slot is =
    let read = both_read generation bytes slot is in
    ap (λ (p : Places). p.in_use) (places_are generation bytes read.one read.other read.first read.second)
    ∙ later_in_use (of_generation generation read.one) (of_generation generation read.other)
    ∙ read.later

pub free_either : (a b : Option ControlSlot) → ((places_of a b).free ≡ 0) ⊎ ((places_of a b).free ≡ 1)
free_either None b = inl refl
free_either (Some one) None = inr refl
free_either (Some one) (Some other) = by (nat_lt one.serial other.serial)
  where
    by : (less : Bool)
        → ((if less then places 0 (Some other) else places 1 (Some one)).free ≡ 0)
        ⊎ ((if less then places 0 (Some other) else places 1 (Some one)).free ≡ 1)
    by true = inl refl
    by false = inr refl

-- the slot at the free place isn't needed
first_lost : (a b : Option ControlSlot) → (places_of a b).free ≡ 0 → later_control None b ≡ later_control a b
first_lost None b free = refl
first_lost (Some one) None free = absurd (omega (arith, free))
first_lost (Some one) (Some other) free = by (nat_lt one.serial other.serial) free
  where
    by : (less : Bool)
        → (if less then places 0 (Some other) else places 1 (Some one)).free ≡ 0
        → Some other ≡ (if less then Some other else Some one)
    by true free = refl
    by false free = absurd (omega (arith, free))

second_lost : (a b : Option ControlSlot) → (places_of a b).free ≡ 1 → later_control a None ≡ later_control a b
second_lost None b free = absurd (omega (arith, free))
second_lost (Some one) None free = refl
second_lost (Some one) (Some other) free = by (nat_lt one.serial other.serial) free
  where
    by : (less : Bool)
        → (if less then places 0 (Some other) else places 1 (Some one)).free ≡ 1
        → Some one ≡ (if less then Some other else Some one)
    by true free = absurd (omega (arith, free))
    by false free = refl

-- What stands at the free place afterwards: what stood there, or a slot that isn't of the generation, or none.
abbrev pub IsOtherOr : ℕ → Result (Option ControlSlot) ReadFault → Result (Option ControlSlot) ReadFault → Type 0
IsOtherOr generation before after =
    (after ≡ before)
    ⊎ ((slot : Option ControlSlot) × ((after ≡ Ok slot) × (of_generation generation slot ≡ None)))

-- the slot in use is still in use where the one at the free place is another
pub first_written : (generation : ℕ) (before after : List ℕ) (slot : Option ControlSlot)
    → (control_places generation before).free ≡ 0 → control_at 1 after ≡ control_at 1 before
    → IsOtherOr generation (control_at 0 before) (control_at 0 after)
    → control_of_file generation before ≡ Ok slot → control_of_file generation after ≡ Ok slot
first_written generation before after slot free kept (inl same) is =
    ap (λ read. later_by generation read (control_at 1 after)) same
    ∙ ap (later_by generation (control_at 0 before)) kept ∙ is
first_written generation before after slot free kept (inr (found, (now, none))) is =
    let read = both_read generation before slot is in
    let places = places_are generation before read.one read.other read.first read.second in
    let at : (places_of (of_generation generation read.one) (of_generation generation read.other)).free ≡ 0 =
    sym (ap (λ (p : Places). p.free) places) ∙ free in
    both_are generation after found read.other now (kept ∙ read.second)
    ∙ ap (λ one. Ok (later_control one (of_generation generation read.other))) none
    ∙ ap Ok (first_lost (of_generation generation read.one) (of_generation generation read.other) at ∙ read.later)

pub second_written : (generation : ℕ) (before after : List ℕ) (slot : Option ControlSlot)
    → (control_places generation before).free ≡ 1 → control_at 0 after ≡ control_at 0 before
    → IsOtherOr generation (control_at 1 before) (control_at 1 after)
    → control_of_file generation before ≡ Ok slot → control_of_file generation after ≡ Ok slot
second_written generation before after slot free kept (inl same) is =
    ap (λ read. later_by generation read (control_at 1 after)) kept
    ∙ ap (later_by generation (control_at 0 before)) same ∙ is
second_written generation before after slot free kept (inr (found, (now, none))) is =
    let read = both_read generation before slot is in
    let places = places_are generation before read.one read.other read.first read.second in
    let at : (places_of (of_generation generation read.one) (of_generation generation read.other)).free ≡ 1 =
    sym (ap (λ (p : Places). p.free) places) ∙ free in
    both_are generation after read.one found (kept ∙ read.first) now
    ∙ ap (λ other. Ok (later_control (of_generation generation read.one) other)) none
    ∙ ap Ok (second_lost (of_generation generation read.one) (of_generation generation read.other) at ∙ read.later)

-- at the place that isn't free there is a slot, where the first place isn't
pub second_free : (generation : ℕ) (bytes : List ℕ) → (control_places generation bytes).free ≡ 1
    → (slot : ControlSlot) × (control_at 0 bytes ≡ Ok (Some slot))
second_free generation bytes free = by (control_at 0 bytes) refl
  where
    other : Option ControlSlot
    other = of_generation generation (usable (control_at 1 bytes))

    none : (first : Option ControlSlot) → of_generation generation (usable (control_at 0 bytes)) ≡ first
        → first ≡ None → ⊥
    none first is not_so =
        let at : (control_places generation bytes).free ≡ 0 =
        ap (λ a. (places_of a other).free) (is ∙ not_so) in
        omega (arith, at, free)

    by : (read : Result (Option ControlSlot) ReadFault) → control_at 0 bytes ≡ read
        → (slot : ControlSlot) × (control_at 0 bytes ≡ Ok (Some slot))
    by (Err fault) e = absurd (none None (ap (λ read. of_generation generation (usable read)) e) refl)
    by (Ok None) e = absurd (none None (ap (λ read. of_generation generation (usable read)) e) refl)
    by (Ok (Some slot)) e = (slot, e)
