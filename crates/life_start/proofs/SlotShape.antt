-- A slot of a shape is written to a system file whose slots are of this shape.
use Rattle.std.proofs.Common.{◌≡◌, ◌∙◌, ℕ, zero, suc, ◌≤◌, Bool, true, List, length, refl, ap, sym, arith, inl, inr}
use Rattle.std.specs.Prelude.{IfSome, Option, None, Some, Ok}
use Rattle.host_io.specs.Call.{Call}
use Rattle.sig_core.specs.declared.slots.SystemSlot.{SystemSlot}
use Rattle.sig_core.specs.declared.view.Shape.{Shape}
use Rattle.sysfile_core.specs.declared.place.TheConstants.{SYSTEM_FILE}
use Rattle.sysfile_core.specs.declared.system.TheConstants.{SYSTEM_BYTES}
use Rattle.sysfile_core.specs.Places.{place_of, slot_at}
use Rattle.sysfile_core.specs.Reading.{system_at, system_by}
use Rattle.sysfile_core.specs.Slots.{IsSystemSlot, system_bytes}
use Rattle.sys_restart.specs.Files.{Files}
use Rattle.sys_restart.specs.Latest.{same_shape}
use Rattle.sys_restart.proofs.NameLemmas.{system_back, system_long}
use Rattle.sys_restart.proofs.SlotWrite.{HasPlace, IsMoment, IsSlotWrite, behind_has, other_has, place_has}
use Rattle.life_start.specs.Shapes.{AreOfShape}

-- at a place a slot can be read, which is closed or of a shape
abbrev pub IsOfShapeAt : Shape → ℕ → List ℕ → Type 0
IsOfShapeAt shape which bytes =
    (slot : Option SystemSlot) × ((system_at which bytes ≡ Ok slot)
    × IfSome slot (λ (one : SystemSlot). same_shape one.shape shape ≡ true))

pub at_both : (shape : Shape) (bytes : List ℕ) → IsOfShapeAt shape 0 bytes → IsOfShapeAt shape 1 bytes
    → AreOfShape shape bytes
at_both shape bytes one other zero few = one
at_both shape bytes one other (suc zero) few = other
at_both shape bytes one other (suc (suc more)) few = absurd (omega (arith, few))

-- what stands at a place is read, of bytes as many as a slot has
read_as : (which size : ℕ) (bytes : List ℕ) (found : Option (List ℕ)) → size ≡ SYSTEM_BYTES
    → slot_at (place_of which) size bytes ≡ found → system_at which bytes ≡ system_by (place_of which) found
read_as which size bytes found long is =
    ap (λ (n : ℕ). system_by (place_of which) (slot_at (place_of which) n bytes)) (sym long)
    ∙ ap (system_by (place_of which)) is

-- so it is of two files that have the same there
same_there : (shape : Shape) (which size : ℕ) (old new : List ℕ) → size ≡ SYSTEM_BYTES
    → slot_at (place_of which) size new ≡ slot_at (place_of which) size old
    → IsOfShapeAt shape which old → IsOfShapeAt shape which new
same_there shape which size old new long is (slot, (reads, fits)) = (
  slot,
  (
    read_as which size new (slot_at (place_of which) size old) long is
        ∙ sym (read_as which size old (slot_at (place_of which) size old) long refl)
        ∙ reads,
    fits,
  ),
)

-- Whatever a crash leaves at a moment of the write.
module _ (shape : Shape) (mid after older : List Call) (ok : Bool) (old : List ℕ) (slot : SystemSlot) (image : Files)
    (readable : IsSystemSlot slot) (same : same_shape slot.shape shape ≡ true)
    (moment : IsMoment mid after older image) where
  abbrev IsWritten : ℕ → Type 0
  IsWritten which = IsSlotWrite mid after ok SYSTEM_FILE old (place_of which) (system_bytes slot)

  -- where it is written there is the new slot, or what was there, or none
  where_written : (which : ℕ) → IsWritten which → IsOfShapeAt shape which old
      → IsOfShapeAt shape which (image SYSTEM_FILE)
  where_written which write was =
      by (place_has mid after older ok SYSTEM_FILE old (place_of which) (system_bytes slot) image write moment)
    where
      by : HasPlace old (place_of which) (system_bytes slot) (image SYSTEM_FILE)
          → IsOfShapeAt shape which (image SYSTEM_FILE)
      by (inl none) =
          (None, (read_as which (length (system_bytes slot)) (image SYSTEM_FILE) None (system_long slot) none, tt))
      by (inr (inl new)) = (
        Some slot,
        (
          read_as which (length (system_bytes slot)) (image SYSTEM_FILE) (Some (system_bytes slot)) (system_long slot)
              new
              ∙ system_back (place_of which) slot readable,
          same,
        ),
      )
      by (inr (inr as_old)) =
          same_there shape which (length (system_bytes slot)) old (image SYSTEM_FILE) (system_long slot) as_old was

  -- and the other place is as it was
  pub still_of_shape : (which : ℕ) → which ≤ 1 → (which ≡ 1 → SYSTEM_BYTES ≤ length old) → IsWritten which
      → AreOfShape shape old → AreOfShape shape (image SYSTEM_FILE)
  still_of_shape zero few room write are =
      at_both shape (image SYSTEM_FILE) (where_written 0 write (are 0 (omega arith)))
      (same_there shape 1 (length (system_bytes slot)) old (image SYSTEM_FILE) (system_long slot)
      (behind_has mid after older ok SYSTEM_FILE old (place_of 0) (system_bytes slot) image write moment (place_of 1)
      (omega (arith, system_long slot)))
      (are 1 (omega arith)))
  still_of_shape (suc zero) few room write are =
      at_both shape (image SYSTEM_FILE)
      (same_there shape 0 (length (system_bytes slot)) old (image SYSTEM_FILE) (system_long slot)
      (other_has mid after older ok SYSTEM_FILE old (place_of 1) (system_bytes slot) image write moment (place_of 0)
      (inl (omega (arith, system_long slot))) (omega (arith, system_long slot, room refl)))
      (are 0 (omega arith)))
      (where_written 1 write (are 1 (omega arith)))
  still_of_shape (suc (suc more)) few room write are = absurd (omega (arith, few))
