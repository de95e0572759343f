-- Where a control slot is in use, the place at which the next one isn't written is of no later generation.
use Rattle.std.proofs.Common.{◌≡◌, ◌∙◌, ◌⊎◌, ℕ, ◌+◌, ◌==◌, Bool, true, false, nat_lt, List, refl, ap, arith, inl, inr}
use Rattle.std.proofs.Common.{if◌then◌else◌}
use Rattle.std.proofs.lemmas.Bool.{eqb-true, ne_eqb}
use Rattle.std.specs.Prelude.{Option, None, Some, Ok}
use Rattle.sig_core.specs.declared.slots.ControlSlot.{ControlSlot}
use Rattle.sysfile_core.specs.Reading.{control_at, control_of_file, later_control, of_generation}
use Rattle.sys_restart.specs.declared.places.Places.{Places}
use Rattle.sys_restart.specs.Places.{control_places, places, places_of}
use Rattle.sys_restart.specs.Prepared.{HasKept, kept_control}
use Rattle.sys_restart.proofs.AlikeLemmas.{not_none}
use Rattle.sys_restart.proofs.ControlLemmas.{both_read, places_are}

-- a slot of a generation is none of the next
none_of_next : (generation : ℕ) (one : Option ControlSlot) (slot : ControlSlot)
    → of_generation generation one ≡ Some slot → of_generation (generation + 1) one ≡ None
none_of_next generation None slot is = refl
none_of_next generation (Some one) slot is = by (one.generation == generation) refl is
  where
    by : (same : Bool) → (one.generation == generation) ≡ same → (if same then Some one else None) ≡ Some slot
        → of_generation (generation + 1) (Some one) ≡ None
    by true e found =
        let own : one.generation ≡ generation = eqb-true one.generation generation e in
        ap (λ (b : Bool). if b then Some one else None)
        (ne_eqb one.generation (generation + 1) (λ same. absurd (omega (arith, own, same))))
    by false e found = absurd (not_none slot _ refl found)

-- the slot in use stands at the place that isn't free
stands_beside : (a b : Option ControlSlot) (slot : ControlSlot) → later_control a b ≡ Some slot
    → (((places_of a b).free ≡ 0) × (b ≡ Some slot)) ⊎ (((places_of a b).free ≡ 1) × (a ≡ Some slot))
stands_beside None b slot is = inl (refl, is)
stands_beside (Some one) None slot is = inr (refl, is)
stands_beside (Some one) (Some other) slot is = by (nat_lt one.serial other.serial) is
  where
    by : (less : Bool) → (if less then Some other else Some one) ≡ Some slot
        → (((if less then places 0 (Some other) else places 1 (Some one)).free ≡ 0) × (Some other ≡ Some slot))
        ⊎ (((if less then places 0 (Some other) else places 1 (Some one)).free ≡ 1) × (Some one ≡ Some slot))
    by true so = inl (refl, so)
    by false so = inr (refl, so)

pub in_use_kept : (generation : ℕ) (bytes : List ℕ) (slot : ControlSlot)
    → control_of_file generation bytes ≡ Ok (Some slot) → HasKept generation bytes
in_use_kept generation bytes slot is =
    let read = both_read generation bytes (Some slot) is in
    let are = places_are generation bytes read.one read.other read.first read.second in
    elim
    (stands_beside (of_generation generation read.one) (of_generation generation read.other) slot read.later) [
      | inl (free, second) ↦ (
        read.other,
        (
          at (ap (λ (p : Places). p.free) are ∙ free) ∙ read.second,
          none_of_next generation read.other slot second,
        ),
      )
      | inr (free, first) ↦ (
        read.one,
        (
          at (ap (λ (p : Places). p.free) are ∙ free) ∙ read.first,
          none_of_next generation read.one slot first,
        ),
      )
    ]
  where
    at : {free : ℕ} → (control_places generation bytes).free ≡ free
        → kept_control generation bytes ≡ (if free == 0 then control_at 1 bytes else control_at 0 bytes)
    at free = ap (λ (place : ℕ). if place == 0 then control_at 1 bytes else control_at 0 bytes) free
