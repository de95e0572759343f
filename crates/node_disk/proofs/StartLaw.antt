-- The slots with which a life begins.
use Rattle.std.proofs.Common.{◌≡◌, ◌∙◌, ℕ, ◌+◌, ◌-◌, ◌≤◌, ◌==◌, Bool, true, false, nat_lt, List, refl, ap, sym, subst}
use Rattle.std.proofs.Common.{arith}
use Rattle.std.specs.Prelude.{Option, None, Some, Result, Ok, Err, if◌then◌else◌}
use Rattle.std.proofs.lemmas.Bool.{eq-eqb, eqb-true}
use Rattle.redo_log.specs.Stored.{files_of}
use Rattle.sig_core.specs.declared.fault.ReadFault.{ReadFault}
use Rattle.sig_core.specs.declared.slots.ControlSlot.{ControlSlot}
use Rattle.sig_core.specs.declared.slots.SystemSlot.{SystemSlot}
use Rattle.sysfile_core.specs.declared.place.TheConstants.{CONTROL_FILE, SYSTEM_FILE}
use Rattle.sysfile_core.specs.Reading.{control_at, control_of_file, is_earlier, later_control, later_of, later_system}
use Rattle.sysfile_core.specs.Reading.{of_generation, system_at, system_of_file}
use Rattle.sys_restart.specs.declared.places.Places.{Places}
use Rattle.sys_restart.specs.Calls.{next_system}
use Rattle.sys_restart.specs.Places.{control_places, free_of, free_system, places, places_of, usable}
use Rattle.sys_restart.proofs.AlikeLemmas.{no_answer, not_none, same_answer, same_some}
use Rattle.sys_restart.proofs.ControlLemmas.{both_read, places_are}
use Rattle.node_disk.specs.Found.{slots_beside, slots_read}
use Rattle.node_disk.specs.Laws.{AReadyDiskHasSlots, HasControl, HasSystem, SlotsAreInUse}
use Rattle.node_disk.specs.Slots.{SlotsInUse}

-- a slot stands at a place of two, and what is at the other place can be read
record StandsAt (S : Type 0) (at : ℕ → Result (Option S) ReadFault) (slot : S) (which : ℕ) : Type 0 where
  place : which ≤ 1
  stands : at which ≡ Ok (Some slot)
  other : Option S
  beside : at (1 - which) ≡ Ok other

-- a slot of the generation
of_is : (generation : ℕ) (one : Option ControlSlot) (slot : ControlSlot) → of_generation generation one ≡ Some slot
    → (one ≡ Some slot) × (slot.generation ≡ generation)
of_is generation None slot is = absurd (not_none slot _ refl is)
of_is generation (Some one) slot is = by (one.generation == generation) refl is
  where
    by : (same : Bool) → (one.generation == generation) ≡ same → (if same then Some one else None) ≡ Some slot
        → (Some one ≡ Some slot) × (slot.generation ≡ generation)
    by true e found =
        let same : one ≡ slot = same_some one slot _ refl found in
        (found, ap (λ (s : ControlSlot). s.generation) (sym same) ∙ eqb-true one.generation generation e)
    by false e found = absurd (not_none slot _ refl found)

-- where the control slot in use stands
module _ (generation : ℕ) (bytes : List ℕ) (one other : Option ControlSlot) (slot : ControlSlot)
    (first : control_at 0 bytes ≡ Ok one) (second : control_at 1 bytes ≡ Ok other) where
  abbrev At : ℕ → Result (Option ControlSlot) ReadFault
  At which = control_at which bytes

  abbrev Found : Places → Type 0
  Found p = StandsAt ControlSlot At slot (1 - p.free) × (slot.generation ≡ generation)

  at_first : (free : ℕ) → free ≡ 1 → of_generation generation one ≡ Some slot
      → StandsAt ControlSlot At slot (1 - free) × (slot.generation ≡ generation)
  at_first free is found =
      subst (λ (f : ℕ). StandsAt ControlSlot At slot (1 - f) × (slot.generation ≡ generation)) (sym is)
      (let own = of_is generation one slot found in
      (record { place = omega arith; stands = first ∙ ap Ok own.0; other = other; beside = second }, own.1))

  at_second : (free : ℕ) → free ≡ 0 → of_generation generation other ≡ Some slot
      → StandsAt ControlSlot At slot (1 - free) × (slot.generation ≡ generation)
  at_second free is found =
      subst (λ (f : ℕ). StandsAt ControlSlot At slot (1 - f) × (slot.generation ≡ generation)) (sym is)
      (let own = of_is generation other slot found in
      (record { place = omega arith; stands = second ∙ ap Ok own.0; other = one; beside = first }, own.1))

  control_stands : (a b : Option ControlSlot) → of_generation generation one ≡ a → of_generation generation other ≡ b
      → later_control a b ≡ Some slot → Found (places_of a b)
  control_stands None b e f later = at_second 0 refl (f ∙ later)
  control_stands (Some a) None e f later = at_first 1 refl (e ∙ later)
  control_stands (Some a) (Some b) e f later = by (nat_lt a.serial b.serial) later
    where
      by : (less : Bool) → (if less then Some b else Some a) ≡ Some slot
          → Found (if less then places 0 (Some b) else places 1 (Some a))
      by true found = at_second 0 refl (f ∙ found)
      by false found = at_first 1 refl (e ∙ found)

-- and the system slot
system_stands : (bytes : List ℕ) (slot : SystemSlot) → system_of_file bytes ≡ Ok (Some slot)
    → StandsAt SystemSlot (λ which. system_at which bytes) slot (1 - free_system bytes)
system_stands bytes slot is = by (system_at 0 bytes) (system_at 1 bytes) refl refl
  where
    at : ℕ → Result (Option SystemSlot) ReadFault
    at which = system_at which bytes

    later : (a b : Result (Option SystemSlot) ReadFault) → system_at 0 bytes ≡ a → system_at 1 bytes ≡ b
        → later_of a b ≡ Ok (Some slot)
    later a b e f = sym (ap (λ read. later_of read (system_at 1 bytes)) e ∙ ap (later_of a) f) ∙ is

    free : (a b : Result (Option SystemSlot) ReadFault) → system_at 0 bytes ≡ a → system_at 1 bytes ≡ b
        → free_of (usable a) (usable b) ≡ free_system bytes
    free a b e f =
        sym (ap (λ read. free_of (usable read) (usable (system_at 1 bytes))) e
        ∙ ap (λ read. free_of (usable a) (usable read)) f)

    in_first : (one other : Option SystemSlot) → system_at 0 bytes ≡ Ok one → system_at 1 bytes ≡ Ok other
        → one ≡ Some slot → StandsAt SystemSlot at slot 0
    in_first one other e f found =
        record { place = omega arith; stands = e ∙ ap Ok found; other = other; beside = f }

    in_second : (one other : Option SystemSlot) → system_at 0 bytes ≡ Ok one → system_at 1 bytes ≡ Ok other
        → other ≡ Some slot → StandsAt SystemSlot at slot 1
    in_second one other e f found =
        record { place = omega arith; stands = f ∙ ap Ok found; other = one; beside = e }

    of_both : (one other : Option SystemSlot) → system_at 0 bytes ≡ Ok one → system_at 1 bytes ≡ Ok other
        → later_system one other ≡ Some slot → StandsAt SystemSlot at slot (1 - free_of one other)
    of_both None other e f found = in_second None other e f found
    of_both (Some one) None e f found = in_first (Some one) None e f found
    of_both (Some one) (Some other) e f found = pick (is_earlier one other) found
      where
        pick : (earlier : Bool) → (if earlier then Some other else Some one) ≡ Some slot
            → StandsAt SystemSlot at slot (1 - (if earlier then 0 else 1))
        pick true so = in_second (Some one) (Some other) e f so
        pick false so = in_first (Some one) (Some other) e f so

    by : (a b : Result (Option SystemSlot) ReadFault) → system_at 0 bytes ≡ a → system_at 1 bytes ≡ b
        → StandsAt SystemSlot at slot (1 - free_system bytes)
    by (Err fault) b e f = absurd (no_answer fault (Some slot) _ refl (later (Err fault) b e f))
    by (Ok one) (Err fault) e f = absurd (no_answer fault (Some slot) _ refl (later (Ok one) (Err fault) e f))
    by (Ok one) (Ok other) e f =
        subst (λ (n : ℕ). StandsAt SystemSlot at slot (1 - n)) (free (Ok one) (Ok other) e f)
        (of_both one other e f
        (same_answer (later_system one other) (Some slot) _ refl (later (Ok one) (Ok other) e f)))

-- what was read of both files
record AreFound (generation : ℕ) (system : List ℕ) (control : List ℕ) (s : SlotsInUse) : Type 0 where
  in_system : system_of_file system ≡ Ok (Some s.system)
  in_control : control_of_file generation control ≡ Ok (Some s.control)
  system_at : s.system_at ≡ 1 - free_system system
  control_at : s.control_at ≡ 1 - (control_places generation control).free

are_found : (generation : ℕ) (system control : List ℕ) (s : SlotsInUse)
    → slots_read generation (system_of_file system) (free_system system) (control_of_file generation control)
    (control_places generation control).free
    ≡ Ok (Some s)
    → AreFound generation system control s
are_found generation system control s is =
    by (system_of_file system) (control_of_file generation control) refl refl is
  where
    free : ℕ
    free = free_system system

    free_control : ℕ
    free_control = (control_places generation control).free

    found : (one : SystemSlot) (other : ControlSlot) → system_of_file system ≡ Ok (Some one)
        → control_of_file generation control ≡ Ok (Some other) → (same : Bool)
        → (if same then Some (slots_beside one free other free_control) else None) ≡ Some s
        → AreFound generation system control s
    found one other e f false so = absurd (not_none s _ refl so)
    found one other e f true so =
        subst (AreFound generation system control)
        (same_some (slots_beside one free other free_control) s _ refl so)
        (record { in_system = e; in_control = f; system_at = refl; control_at = refl })

    by : (a : Result (Option SystemSlot) ReadFault) (b : Result (Option ControlSlot) ReadFault)
        → system_of_file system ≡ a → control_of_file generation control ≡ b
        → slots_read generation a free b free_control ≡ Ok (Some s) → AreFound generation system control s
    by (Err fault) b e f so = absurd (no_answer fault (Some s) _ refl so)
    by (Ok one) (Err fault) e f so = absurd (no_answer fault (Some s) _ refl so)
    by (Ok None) (Ok other) e f so = absurd (not_none s _ refl (same_answer None (Some s) _ refl so))
    by (Ok (Some one)) (Ok None) e f so = absurd (not_none s _ refl (same_answer None (Some s) _ refl so))
    by (Ok (Some one)) (Ok (Some other)) e f so =
        found one other e f (one.generation == generation)
        (same_answer (if one.generation == generation then Some (slots_beside one free other free_control) else None)
        (Some s) _ refl so)

pub are_in_use : SlotsAreInUse
are_in_use generation calls s kept settled is = (control, system)
  where
    are : AreFound generation (files_of calls SYSTEM_FILE) (files_of calls CONTROL_FILE) s
    are = are_found generation (files_of calls SYSTEM_FILE) (files_of calls CONTROL_FILE) s is

    system_there : StandsAt SystemSlot (λ which. system_at which (files_of calls SYSTEM_FILE)) s.system s.system_at
    system_there =
        subst (StandsAt SystemSlot (λ which. system_at which (files_of calls SYSTEM_FILE)) s.system) (sym are.system_at)
        (system_stands (files_of calls SYSTEM_FILE) s.system are.in_system)

    system : HasSystem s calls
    system = record {
      kept = kept;
      clean = settled SYSTEM_FILE (omega arith);
      place = system_there.place;
      stands = system_there.stands;
      other = system_there.other;
      beside = system_there.beside;
      in_use = are.in_system;
    }

    control_there : StandsAt ControlSlot (λ which. control_at which (files_of calls CONTROL_FILE)) s.control
        s.control_at
        × (s.control.generation ≡ generation)
    control_there =
        let bytes = files_of calls CONTROL_FILE in
        let read = both_read generation bytes (Some s.control) are.in_control in
        let a = of_generation generation read.one in
        let b = of_generation generation read.other in
        let place : 1 - (places_of a b).free ≡ s.control_at =
        ap (λ (p : Places). 1 - p.free) (sym (places_are generation bytes read.one read.other read.first read.second))
        ∙ sym are.control_at in
        subst
        (λ (w : ℕ). StandsAt ControlSlot (λ which. control_at which bytes) s.control w
        × (s.control.generation ≡ generation))
        place
        (control_stands generation bytes read.one read.other s.control read.first read.second a b refl refl read.later)

    control : HasControl s calls
    control = record {
      kept = kept;
      clean = settled CONTROL_FILE (omega arith);
      place = control_there.0.place;
      stands = control_there.0.stands;
      other = control_there.0.other;
      beside = control_there.0.beside;
      in_use = subst (λ (g : ℕ). control_of_file g (files_of calls CONTROL_FILE) ≡ Ok (Some s.control))
          (sym control_there.1) are.in_control;
    }

pub ready_has : AReadyDiskHasSlots
ready_has shape node r calls ready =
    let generation = r.generation + 1 in
    let free = free_system (files_of calls SYSTEM_FILE) in
    let free_control = (control_places generation (files_of calls CONTROL_FILE)).free in
    let slot = ready.0.1.0 in
    let named : SystemSlot = next_system shape r in
    let has = ready.0.1.1 in (
      slots_beside named free slot free_control,
      (
        ap (λ read. slots_read generation read free (control_of_file generation (files_of calls CONTROL_FILE))
            free_control) ready.1
            ∙ ap (λ read. slots_read generation (Ok (Some named)) free read free_control) has.in_use
            ∙ ap (λ (b : Bool). Ok (if b then Some (slots_beside named free slot free_control) else None))
            (eq-eqb generation generation refl),
        refl,
        has,
      ),
    )
