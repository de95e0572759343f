-- What the control slots of a generation tell of later epochs.
use Rattle.std.proofs.Common.{◌≡◌, ◌∙◌, ◌⊎◌, ℕ, ◌≤◌, ◌==◌, Bool, true, false, ◌&&◌, nat_lt, List, refl, ap, arith}
use Rattle.std.proofs.Common.{inl, inr, if◌then◌else◌}
use Rattle.std.specs.Prelude.{Option, None, Some, Result, Ok, Err, IfOk}
use Rattle.std.proofs.lemmas.Bool.{and_left, and_right, le-ltb}
use Rattle.sig_core.specs.declared.fault.ReadFault.{ReadFault}
use Rattle.sig_core.specs.declared.slots.ControlSlot.{ControlSlot}
use Rattle.sysfile_core.specs.Reading.{control_at, control_of_file, later_control, of_generation}
use Rattle.sys_restart.specs.Outdated.{are_ahead, is_outdated}
use Rattle.sys_restart.specs.Places.{usable}
use Rattle.sys_restart.proofs.AlikeLemmas.{same_some}
use Rattle.sys_restart.proofs.ControlLemmas.{both_read}
use Rattle.sys_restart.proofs.LostLemmas.{AreWritten, IsWritten}

-- what is found beside a slot that was read
pub ahead_read : (generation epoch : ℕ) (bytes : List ℕ) (one : Option ControlSlot) (result : Result Bool ℕ)
    → one ≡ of_generation generation (usable (control_at 0 bytes))
    → IfOk result (λ ahead. ahead ≡ are_ahead epoch one (of_generation generation (usable (control_at 1 bytes))))
    → IfOk result (λ outdated. outdated ≡ is_outdated generation epoch bytes)
ahead_read generation epoch bytes one (Ok outdated) first is =
    is ∙ ap (λ slot. are_ahead epoch slot (of_generation generation (usable (control_at 1 bytes)))) first
ahead_read generation epoch bytes one (Err count) first is = tt

-- one slot alone tells nothing
none_beside : (epoch : ℕ) (one : Option ControlSlot) → are_ahead epoch one None ≡ false
none_beside epoch None = refl
none_beside epoch (Some one) = refl

-- what is known of a file, by the slots of the generation in it
outdated_as : (generation epoch : ℕ) (bytes : List ℕ) (one other : Option ControlSlot)
    → of_generation generation (usable (control_at 0 bytes)) ≡ one
    → of_generation generation (usable (control_at 1 bytes)) ≡ other
    → is_outdated generation epoch bytes ≡ are_ahead epoch one other
outdated_as generation epoch bytes one other first second =
    ap (λ slot. are_ahead epoch slot (of_generation generation (usable (control_at 1 bytes)))) first
    ∙ ap (are_ahead epoch one) second

-- two slots of which the later wasn't saved behind the epoch
both_below : (epoch : ℕ) (one other : Option ControlSlot) (slot : ControlSlot) → later_control one other ≡ Some slot
    → slot.saved ≤ epoch → are_ahead epoch one other ≡ false
both_below epoch None other slot is low = refl
both_below epoch (Some one) None slot is low = refl
both_below epoch (Some one) (Some other) slot is low = by (nat_lt one.serial other.serial) is
  where
    by : (less : Bool) → (if less then Some other else Some one) ≡ Some slot
        → (nat_lt epoch one.saved && nat_lt epoch other.saved) ≡ false
    by true so =
        let saved : other.saved ≡ slot.saved = ap (λ (s : ControlSlot). s.saved) (same_some other slot _ refl so) in
        and_right (nat_lt epoch one.saved) (nat_lt epoch other.saved)
        (le-ltb epoch other.saved (omega (arith, saved, low)))
    by false so =
        let saved : one.saved ≡ slot.saved = ap (λ (s : ControlSlot). s.saved) (same_some one slot _ refl so) in
        and_left (nat_lt epoch one.saved) (nat_lt epoch other.saved)
        (le-ltb epoch one.saved (omega (arith, saved, low)))

-- Of two slots one is in use: where that isn't behind the epoch, they aren't both.
pub in_use_last : (generation epoch : ℕ) (bytes : List ℕ) (slot : ControlSlot)
    → control_of_file generation bytes ≡ Ok (Some slot) → slot.saved ≤ epoch
    → is_outdated generation epoch bytes ≡ false
in_use_last generation epoch bytes slot is low =
    let read = both_read generation bytes (Some slot) is in
    let one = of_generation generation read.one in
    let other = of_generation generation read.other in
    outdated_as generation epoch bytes one other
    (ap (λ found. of_generation generation (usable found)) read.first)
    (ap (λ found. of_generation generation (usable found)) read.second)
    ∙ both_below epoch one other slot read.later low

-- where a slot of another generation is written there is what was there, or none of the generation
kept_or_none : (generation : ℕ) (slot : ControlSlot) (before after : Result (Option ControlSlot) ReadFault)
    → (slot.generation == generation) ≡ false → IsWritten slot before after
    → (of_generation generation (usable after) ≡ of_generation generation (usable before))
    ⊎ (of_generation generation (usable after) ≡ None)
kept_or_none generation slot before after other (inl same) =
    inl (ap (λ found. of_generation generation (usable found)) same)
kept_or_none generation slot before after other (inr (inl none)) =
    inr (ap (λ found. of_generation generation (usable found)) none)
kept_or_none generation slot before after other (inr (inr new)) =
    inr (ap (λ found. of_generation generation (usable found)) new
    ∙ ap (λ (b : Bool). if b then Some slot else None) other)

-- so the slots tell nothing that they didn't tell before
pub stays_current : (generation epoch : ℕ) (slot : ControlSlot) (free : ℕ) (before after : List ℕ)
    → (slot.generation == generation) ≡ false → AreWritten slot free before after
    → is_outdated generation epoch before ≡ false → is_outdated generation epoch after ≡ false
stays_current generation epoch slot free before after other (inl (at, (kept, written))) is =
    by (kept_or_none generation slot (control_at 0 before) (control_at 0 after) other written)
  where
    second : of_generation generation (usable (control_at 1 after))
        ≡ of_generation generation (usable (control_at 1 before))
    second = ap (λ found. of_generation generation (usable found)) kept

    by : (of_generation generation (usable (control_at 0 after))
        ≡ of_generation generation (usable (control_at 0 before)))
        ⊎ (of_generation generation (usable (control_at 0 after)) ≡ None)
        → is_outdated generation epoch after ≡ false
    by (inl same) = outdated_as generation epoch after _ _ same second ∙ is
    by (inr none) = outdated_as generation epoch after None _ none second
stays_current generation epoch slot free before after other (inr (at, (kept, written))) is =
    by (kept_or_none generation slot (control_at 1 before) (control_at 1 after) other written)
  where
    first : of_generation generation (usable (control_at 0 after))
        ≡ of_generation generation (usable (control_at 0 before))
    first = ap (λ found. of_generation generation (usable found)) kept

    by : (of_generation generation (usable (control_at 1 after))
        ≡ of_generation generation (usable (control_at 1 before)))
        ⊎ (of_generation generation (usable (control_at 1 after)) ≡ None)
        → is_outdated generation epoch after ≡ false
    by (inl same) = outdated_as generation epoch after _ _ first same ∙ is
    by (inr none) = outdated_as generation epoch after _ None first none ∙ none_beside epoch _
