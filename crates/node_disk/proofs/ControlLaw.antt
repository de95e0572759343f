-- The control slot in use, at each moment of a save of rows.
use Rattle.std.proofs.Common.{◌≡◌, ◌∙◌, ℕ, zero, suc, ◌-◌, ◌≤◌, ◌<◌, Bool, true, false, nat_le, List, []}
use Rattle.std.proofs.Common.{length, refl, ap, sym, subst, arith}
use Rattle.std.specs.Prelude.{Option, None, Some, Ok, IfSome, if◌then◌else◌}
use Rattle.std.proofs.lemmas.Bool.{eq-eqb, le-ltb, lt-ltb}
use Rattle.host_io.specs.Call.{Call}
use Rattle.host_io.specs.Image.{LeavesOnly}
use Rattle.redo_log.specs.Stored.{files_of}
use Rattle.sig_core.specs.declared.slots.ControlSlot.{ControlSlot}
use Rattle.sysfile_core.specs.declared.control.TheConstants.{CONTROL_BYTES}
use Rattle.sysfile_core.specs.declared.place.TheConstants.{CONTROL_FILE}
use Rattle.sysfile_core.specs.Reading.{control_at, control_by, control_of_file, later_by, later_control, of_generation}
use Rattle.sysfile_core.specs.Runs.{Runs}
use Rattle.sysfile_core.specs.Slots.{control_bytes}
use Rattle.sys_restart.proofs.NextLemmas.{control_long, control_split, read_back}
use Rattle.node_disk.specs.Laws.{AControlSlotStays, ANamingSlotStays, HasControl, IsEither, MaySaveRows}
use Rattle.node_disk.specs.Saving.{named_control, next_control, redo_calls, slot_behind, walk_named}
use Rattle.node_disk.specs.Slots.{SlotsInUse}
use Rattle.node_disk.proofs.CallLemmas.{AreElsewhere}
use Rattle.node_disk.proofs.RedoLemmas.{not_control, redo_elsewhere}
use Rattle.node_disk.proofs.SlotLaw.{AreRead, Has, finds_either, finds_none, has_still, has_then}

-- a slot of the generation is before which the other is
abbrev pub IsOf : ℕ → ControlSlot → Option ControlSlot → Type 0
IsOf generation slot other =
    (slot.generation ≡ generation) × IfSome (of_generation slot.generation other) (λ one. one.serial < slot.serial)

own : (generation : ℕ) (slot : ControlSlot) → slot.generation ≡ generation
    → of_generation generation (Some slot) ≡ Some slot
own generation slot same =
    ap (λ (b : Bool). if b then Some slot else None) (eq-eqb slot.generation generation same)

first_later : (slot : ControlSlot) (other : Option ControlSlot) → IfSome other (λ one. one.serial < slot.serial)
    → later_control (Some slot) other ≡ Some slot
first_later slot None is = refl
first_later slot (Some one) is =
    ap (λ (b : Bool). if b then Some one else Some slot) (le-ltb slot.serial one.serial (omega (arith, is)))

second_later : (slot : ControlSlot) (other : Option ControlSlot) → IfSome other (λ one. one.serial < slot.serial)
    → later_control other (Some slot) ≡ Some slot
second_later slot None is = refl
second_later slot (Some one) is =
    ap (λ (b : Bool). if b then Some slot else Some one) (lt-ltb one.serial slot.serial is)

latest : (generation : ℕ) (slot : ControlSlot) (which : ℕ) (bytes : List ℕ) (other : Option ControlSlot) → which ≤ 1
    → control_at which bytes ≡ Ok (Some slot) → control_at (1 - which) bytes ≡ Ok other → IsOf generation slot other
    → control_of_file generation bytes ≡ Ok (Some slot)
latest generation slot zero bytes other place stands beside is =
    ap (λ read. later_by generation read (control_at 1 bytes)) stands
    ∙ ap (λ read. later_by generation (Ok (Some slot)) read) beside
    ∙ ap (λ one. Ok (later_control one (of_generation generation other))) (own generation slot is.0)
    ∙ ap Ok (first_later slot (of_generation generation other)
    (subst (λ (g : ℕ). IfSome (of_generation g other) (λ one. one.serial < slot.serial)) is.0 is.1))
latest generation slot (suc zero) bytes other place stands beside is =
    ap (λ read. later_by generation read (control_at 1 bytes)) beside
    ∙ ap (λ read. later_by generation (Ok other) read) stands
    ∙ ap (λ one. Ok (later_control (of_generation generation other) one)) (own generation slot is.0)
    ∙ ap Ok (second_later slot (of_generation generation other)
    (subst (λ (g : ℕ). IfSome (of_generation g other) (λ one. one.serial < slot.serial)) is.0 is.1))
latest generation slot (suc (suc n)) bytes other place stands beside is = absurd (omega (arith, place))

alike : (generation : ℕ) (a b : List ℕ) (which : ℕ) → which ≤ 1 → control_at which a ≡ control_at which b
    → control_at (1 - which) a ≡ control_at (1 - which) b
    → control_of_file generation a ≡ control_of_file generation b
alike generation a b zero place one other =
    ap (λ read. later_by generation read (control_at 1 a)) one ∙ ap (later_by generation (control_at 0 b)) other
alike generation a b (suc zero) place one other =
    ap (λ read. later_by generation read (control_at 1 a)) other ∙ ap (later_by generation (control_at 0 b)) one
alike generation a b (suc (suc n)) place one other = absurd (omega (arith, place))

-- the slots of the generation, as those of any file of slots
are_read : (generation : ℕ)
    → AreRead ControlSlot CONTROL_BYTES control_by (control_of_file generation) (IsOf generation)
are_read generation = record {
  none_read = λ place. refl;
  none_before = λ slot other is. (is.0, tt);
  latest = latest generation;
  alike = alike generation;
}

abbrev pub Stands : SlotsInUse → List Call → Type 0
Stands s calls =
    Has ControlSlot CONTROL_FILE CONTROL_BYTES control_by (control_of_file s.control.generation)
    (IsOf s.control.generation) s.control s.control_at calls

stands_of : (s : SlotsInUse) (calls : List Call) → HasControl s calls → Stands s calls
stands_of s calls has = record {
  kept = has.kept;
  clean = has.clean;
  place = has.place;
  stands = has.stands;
  other = has.other;
  beside = has.beside;
  used = has.in_use;
  alone = (refl, tt);
}

of_stands : (s : SlotsInUse) (calls : List Call) → Stands s calls → HasControl s calls
of_stands s calls has = record {
  kept = has.kept;
  clean = has.clean;
  place = has.place;
  stands = has.stands;
  other = has.other;
  beside = has.beside;
  in_use = has.used;
}

-- the slot that a save writes is behind the one in use
follows : (s : SlotsInUse) (epoch : ℕ) (bytes : List ℕ) → MaySaveRows s epoch bytes
    → IfSome (of_generation s.control.generation (Some s.control))
    (λ one. one.serial < (next_control s epoch bytes).serial)
follows s epoch bytes may =
    subst (λ (one : Option ControlSlot). IfSome one (λ c. c.serial < (next_control s epoch bytes).serial))
    (sym (own s.control.generation s.control refl)) (omega (arith, may.serial))

pub control_stays : AControlSlotStays
control_stays s epoch bytes before after ok has may runs = by (nat_le epoch s.control.saved) runs
  where
    generation : ℕ
    generation = s.control.generation

    next : ControlSlot
    next = next_control s epoch bytes

    all : List Call
    all = slot_behind (files_of before CONTROL_FILE) s.control.redo_end bytes (1 - s.control_at) next

    asks : List Call
    asks = redo_calls s.control.parity s.control.redo_end bytes

    apart : AreElsewhere CONTROL_FILE asks
    apart = redo_elsewhere CONTROL_FILE s.control.parity s.control.redo_end bytes (not_control s.control.parity)

    found : (place : ℕ) → control_by place (Some (control_bytes next)) ≡ Ok (Some next)
    found place = read_back place next may.readable

    by : (saved : Bool) → Runs (if saved then [] else all) before (Some after) ok
        → LeavesOnly after (length before)
        (λ image. IsEither (control_of_file generation (image CONTROL_FILE)) s.control next)
        × (ok ≡ true
        → HasControl (if saved then s else record s { control = next; control_at = 1 - s.control_at }) after)
    by true made = (
      finds_none ControlSlot CONTROL_FILE CONTROL_BYTES (omega arith) (omega arith) (omega arith) control_by
          (control_of_file generation) (IsOf generation) (are_read generation) s.control next s.control_at before after
          ok (stands_of s before has) made,
      λ so.
          of_stands s after
          (has_still ControlSlot CONTROL_FILE CONTROL_BYTES (omega arith) (omega arith) (omega arith) control_by
          (control_of_file generation) (IsOf generation) (are_read generation) s.control s.control_at before after ok
          (stands_of s before has) made),
    )
    by false made = (
      finds_either ControlSlot CONTROL_FILE CONTROL_BYTES (omega arith) (omega arith) (omega arith) control_by
          (control_of_file generation) (IsOf generation) (are_read generation) s.control next s.control_at
          (control_bytes next) asks before after ok (stands_of s before has) (control_split next) (control_long next)
          found (refl, follows s epoch bytes may) apart made,
      λ so.
          of_stands (record s { control = next; control_at = 1 - s.control_at }) after
          (has_then ControlSlot CONTROL_FILE CONTROL_BYTES (omega arith) (omega arith) (omega arith) control_by
          (control_of_file generation) (IsOf generation) (are_read generation) s.control next s.control_at
          (control_bytes next) asks before after ok (stands_of s before has) (control_split next) (control_long next)
          found (refl, follows s epoch bytes may) apart made so),
    )

-- and so is the one that names a checkpoint
pub naming_stays : ANamingSlotStays
naming_stays s finished before after ok has may runs = (
  finds_either ControlSlot CONTROL_FILE CONTROL_BYTES (omega arith) (omega arith) (omega arith) control_by
      (control_of_file generation) (IsOf generation) (are_read generation) s.control next s.control_at
      (control_bytes next) [] before after ok (stands_of s before has) (control_split next) (control_long next) found
      (refl, follows_it) tt runs,
  λ so.
      of_stands (walk_named s finished) after
      (has_then ControlSlot CONTROL_FILE CONTROL_BYTES (omega arith) (omega arith) (omega arith) control_by
      (control_of_file generation) (IsOf generation) (are_read generation) s.control next s.control_at
      (control_bytes next) [] before after ok (stands_of s before has) (control_split next) (control_long next) found
      (refl, follows_it) tt runs so),
)
  where
    generation : ℕ
    generation = s.control.generation

    next : ControlSlot
    next = named_control s finished

    found : (place : ℕ) → control_by place (Some (control_bytes next)) ≡ Ok (Some next)
    found place = read_back place next may.readable

    follows_it : IfSome (of_generation generation (Some s.control)) (λ one. one.serial < next.serial)
    follows_it =
        subst (λ (one : Option ControlSlot). IfSome one (λ c. c.serial < next.serial))
        (sym (own generation s.control refl)) (omega (arith, may.serial))
