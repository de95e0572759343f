-- Whatever a crash leaves while the system slot of an epoch is written, the slots at both places are of one shape.
use Rattle.std.proofs.Common.{◌≡◌, ◌∙◌, ◌⊎◌, ◌+◌, ◌-◌, ◌≤◌, ◌==◌, ◌&&◌, ℕ, zero, suc, Bool, true, false, nat_le, List}
use Rattle.std.proofs.Common.{[], length, drop, refl, ap, sym, subst, arith, inl, inr, if◌then◌else◌}
use Rattle.std.specs.Prelude.{None, Ok, Option, Some}
use Rattle.std.proofs.lemmas.Bool.{and_parts, cases_lt, eqb-true}
use Rattle.host_io.specs.Call.{Call}
use Rattle.host_io.specs.DiskState.{state_of}
use Rattle.host_io.specs.Image.{IsImage, IsRecord}
use Rattle.host_io.proofs.StateLemmas.{reads_as_an_image, sound_of}
use Rattle.redo_log.specs.Stored.{files_of}
use Rattle.sig_core.specs.declared.slots.SystemSlot.{SystemSlot}
use Rattle.sig_core.specs.declared.view.Shape.{Shape}
use Rattle.sysfile_core.specs.declared.place.TheConstants.{SYSTEM_FILE}
use Rattle.sysfile_core.specs.declared.system.TheConstants.{SYSTEM_BYTES}
use Rattle.sysfile_core.specs.Places.{place_of, slot_at}
use Rattle.sysfile_core.specs.Reading.{system_at, system_by, system_in, unless_damaged}
use Rattle.sysfile_core.specs.Runs.{Runs}
use Rattle.sysfile_core.specs.Slots.{IsSystemSlot, system_bytes, system_fault, system_of}
use Rattle.sysfile_core.specs.Writing.{slot_calls}
use Rattle.sysfile_core.proofs.SlotLemmas.{short_slot}
use Rattle.sys_restart.specs.Files.{Files}
use Rattle.sys_restart.specs.Latest.{same_shape}
use Rattle.sys_restart.proofs.AlikeLemmas.{not_none, same_answer}
use Rattle.sys_restart.proofs.NameLemmas.{system_long, system_split}
use Rattle.sys_restart.proofs.SlotWrite.{IsMoment, IsSlotWrite, other_has, place_has}
use Rattle.node_disk.specs.Laws.{HasSystem}
use Rattle.node_disk.specs.Saving.{noted_system, system_calls}
use Rattle.node_disk.specs.Slots.{SlotsInUse}
use Rattle.node_disk.proofs.CallLemmas.{same_record}
use Rattle.node_views.specs.WellFormed.{is_mask}
use Rattle.life_start.specs.Shapes.{AreOfShape}
use Rattle.disk_laws.specs.Shapes.{LeavesShape}
use Rattle.disk_laws.proofs.ImageLemmas.{joined, system_left}
use Rattle.disk_laws.proofs.SlotNumbers.{noted_readable, system_readable}
use Rattle.disk_laws.proofs.shapes_of.Read.{IsOfShape}

-- the slot at one place is closed, or of this shape
abbrev pub IsShapedAt : Shape → ℕ → List ℕ → Type 0
IsShapedAt shape which bytes =
    (slot : Option SystemSlot) × ((system_at which bytes ≡ Ok slot) × IsOfShape shape slot)

-- shapes that pass the test are the same
same_shapes : (one other : Shape) → same_shape one other ≡ true → one ≡ other
same_shapes one other is =
    let both = and_parts ((one.nodes == other.nodes) && (one.replicas == other.replicas))
    (one.fragments == other.fragments) is in
    let first = and_parts (one.nodes == other.nodes) (one.replicas == other.replicas) both.0 in
    let nodes : one.nodes ≡ other.nodes = eqb-true one.nodes other.nodes first.0 in
    let replicas : one.replicas ≡ other.replicas = eqb-true one.replicas other.replicas first.1 in
    let fragments : one.fragments ≡ other.fragments = eqb-true one.fragments other.fragments both.1 in
    ap (λ n. record { nodes = n; replicas = one.replicas; fragments = one.fragments }) nodes
    ∙ ap (λ n. record { nodes = other.nodes; replicas = n; fragments = one.fragments }) replicas
    ∙ ap (λ n. record { nodes = other.nodes; replicas = other.replicas; fragments = n }) fragments

-- the bytes of a slot are read as one of its shape, whatever its epoch
fits_still : (slot : SystemSlot) → IsSystemSlot (record slot { epoch = 0 }) → system_fault (system_bytes slot) ≡ None
unfolding system_bytes system_fault
fits_still slot is = rw (is.nodes, is.replicas, is.fragments, is.mask) refl

shape_read : (slot : SystemSlot) → (system_of (system_bytes slot)).shape ≡ slot.shape
unfolding system_bytes
shape_read slot = refl

reads_back : (place : ℕ) (slot : SystemSlot) → IsSystemSlot (record slot { epoch = 0 })
    → system_by place (Some (system_bytes slot)) ≡ Ok (Some (system_of (system_bytes slot)))
unfolding system_in
reads_back place slot is =
    ap (unless_damaged SYSTEM_FILE place (system_bytes slot) (system_of (system_bytes slot))) (fits_still slot is)

module _ (shape : Shape) where
  -- what is read at a place depends on its slot alone
  same_at : (which : ℕ) (one other : List ℕ)
      → slot_at (place_of which) SYSTEM_BYTES one ≡ slot_at (place_of which) SYSTEM_BYTES other
      → IsShapedAt shape which other → IsShapedAt shape which one
  same_at which one other same is = (is.0, (ap (system_by (place_of which)) same ∙ is.1.0, is.1.1))

  closed_at : (which : ℕ) (bytes : List ℕ) → slot_at (place_of which) SYSTEM_BYTES bytes ≡ None
      → IsShapedAt shape which bytes
  closed_at which bytes none = (None, (ap (system_by (place_of which)) none, tt))

  new_at : (which : ℕ) (bytes : List ℕ) (slot : SystemSlot) → IsSystemSlot (record slot { epoch = 0 })
      → same_shape slot.shape shape ≡ true
      → slot_at (place_of which) SYSTEM_BYTES bytes ≡ Some (system_bytes slot) → IsShapedAt shape which bytes
  new_at which bytes slot is shaped new = (
    Some (system_of (system_bytes slot)),
    (
      ap (system_by (place_of which)) new ∙ reads_back (place_of which) slot is,
      subst (λ (other : Shape). same_shape other shape ≡ true) (sym (shape_read slot)) shaped,
    ),
  )

  -- both places are told by the one in use and the other one
  both_places : (bytes : List ℕ) (which : ℕ) → which ≤ 1 → IsShapedAt shape which bytes
      → IsShapedAt shape (1 - which) bytes → AreOfShape shape bytes
  both_places bytes zero place one other zero low = one
  both_places bytes zero place one other (suc zero) low = other
  both_places bytes (suc zero) place one other zero low = other
  both_places bytes (suc zero) place one other (suc zero) low = one
  both_places bytes which place one other at low = absurd (omega (arith, place, low))

  -- The system slot of an epoch is written, or its write failed at one of the calls.
  module _ (s : SlotsInUse) (epoch mask : ℕ) (before after : List Call) (ok : Bool) (has : HasSystem s before)
      (named : is_mask shape mask ≡ true) (grows : length before ≤ length after) (kept : IsRecord after)
      (are : LeavesShape shape before)
      (runs : Runs (system_calls (files_of before SYSTEM_FILE) s epoch mask) before (Some after) ok) where
    abbrev old : List ℕ
    old = files_of before SYSTEM_FILE

    abbrev at : ℕ
    at = s.system_at

    abbrev next : SystemSlot
    next = noted_system s.system epoch mask

    abbrev whole : List ℕ
    whole = system_bytes next

    abbrev all : List Call
    all = slot_calls old SYSTEM_FILE (place_of (1 - at)) (drop 1 whole)

    was : AreOfShape shape old
    was = are old (reads_as_an_image before has.kept SYSTEM_FILE (omega arith))

    -- the slot in use is of the shape, and so is the new one
    used : same_shape s.system.shape shape ≡ true
    used =
        let one = was at has.place in
        subst (IsOfShape shape) (same_answer one.0 (Some s.system) (system_at at old) one.1.0 has.stands) one.1.1

    readable : IsSystemSlot (record next { epoch = 0 })
    readable =
        noted_readable s.system shape 0 mask
        (system_readable at old s.system (sound_of before SYSTEM_FILE has.kept (omega arith)).are_bytes has.stands)
        (same_shapes s.system.shape shape used) named (omega arith)

    -- the file has all of the slot in use
    reaches : place_of at + SYSTEM_BYTES ≤ length old
    reaches =
        elim (cases_lt (length old) (place_of at + SYSTEM_BYTES)) [
          | inr within ↦ within
          | inl short ↦
              absurd (not_none s.system None refl
              (same_answer None (Some s.system) (system_at at old)
              (ap (system_by (place_of at)) (short_slot (place_of at) SYSTEM_BYTES old short)) has.stands))
        ]

    -- slots of this size at both places lie apart
    abbrev AreApart : ℕ → ℕ → Type 0
    AreApart which size =
        (place_of which + size ≤ place_of (1 - which)) ⊎ (place_of (1 - which) + size ≤ place_of which)

    away : (which : ℕ) → which ≤ 1 → AreApart which SYSTEM_BYTES
    away zero place = inl (omega arith)
    away (suc zero) place = inr (omega arith)
    away (suc (suc n)) place = absurd (omega (arith, place))

    module _ (made : Runs all before (Some after) ok) (bytes : List ℕ)
        (image : IsImage (state_of after SYSTEM_FILE) bytes) where
      abbrev files : Files
      files = joined (λ file. bytes) (files_of after)

      write : IsSlotWrite before after ok SYSTEM_FILE old (place_of (1 - at)) whole
      write = record {
        kept = has.kept;
        there = omega arith;
        opened = system_split next;
        some = omega (arith, system_long next);
        settled_so = has.clean;
        runs = made;
      }

      moment : IsMoment before after after files
      moment =
          record { newer = []; split = refl; long = grows; left = system_left after (λ file. bytes) kept image }

      in_use : IsShapedAt shape at bytes
      in_use =
          same_at at bytes old
          (subst (λ (n : ℕ). slot_at (place_of at) n bytes ≡ slot_at (place_of at) n old) (system_long next)
          (other_has before after after ok SYSTEM_FILE old (place_of (1 - at)) whole files write moment (place_of at)
          (subst (AreApart at) (sym (system_long next)) (away at has.place))
          (subst (λ (n : ℕ). place_of at + n ≤ length old) (sym (system_long next)) reaches)))
          (was at has.place)

      -- what stands at the other place: none, the new slot, or what stood there
      abbrev Comes : ℕ → Type 0
      Comes size =
          (slot_at (place_of (1 - at)) size bytes ≡ None)
          ⊎ ((slot_at (place_of (1 - at)) size bytes ≡ Some whole)
          ⊎ (slot_at (place_of (1 - at)) size bytes ≡ slot_at (place_of (1 - at)) size old))

      other : IsShapedAt shape (1 - at) bytes
      other =
          by (subst Comes (system_long next)
          (place_has before after after ok SYSTEM_FILE old (place_of (1 - at)) whole files write moment))
        where
          by : Comes SYSTEM_BYTES → IsShapedAt shape (1 - at) bytes
          by (inl none) = closed_at (1 - at) bytes none
          by (inr (inl new)) = new_at (1 - at) bytes next readable used new
          by (inr (inr same)) = same_at (1 - at) bytes old same (was (1 - at) (omega arith))

      all_shaped : AreOfShape shape bytes
      all_shaped = both_places bytes at has.place in_use other

    pub written_shaped : LeavesShape shape after
    written_shaped bytes image = by (nat_le epoch s.system.epoch) runs
      where
        by : (saved : Bool) → Runs (if saved then [] else all) before (Some after) ok → AreOfShape shape bytes
        by true none =
            are bytes
            (subst (λ calls. IsImage (state_of calls SYSTEM_FILE) bytes) (same_record after before none.0) image)
        by false made = all_shaped made bytes image
