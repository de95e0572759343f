-- The system slot in use, at each moment of a save of it.
use Rattle.std.proofs.Common.{◌≡◌, ◌∙◌, ℕ, zero, suc, ◌-◌, ◌≤◌, ◌<◌, Bool, true, false, nat_le, List, [], length}
use Rattle.std.proofs.Common.{refl, ap, sym}
use Rattle.std.proofs.Common.{◌⊎◌, ◌==◌, nat_lt, ◌&&◌, drop, inl, inr, arith}
use Rattle.std.specs.Prelude.{Option, None, Some, Ok, IfSome, if◌then◌else◌, ◌||◌}
use Rattle.std.proofs.lemmas.Bool.{cases_lt, eq-eqb, eqb-true, le-leb, le-ltb, ltb-true, lt-ltb, true≢false}
use Rattle.host_io.specs.Call.{Call}
use Rattle.host_io.specs.Image.{LeavesOnly}
use Rattle.redo_log.specs.Stored.{files_of}
use Rattle.sig_core.specs.declared.slots.SystemSlot.{SystemSlot}
use Rattle.sysfile_core.specs.declared.place.TheConstants.{SYSTEM_FILE}
use Rattle.sysfile_core.specs.declared.system.TheConstants.{SYSTEM_BYTES}
use Rattle.sysfile_core.specs.Places.{place_of}
use Rattle.sysfile_core.specs.Reading.{is_earlier, later_of, later_system, system_at, system_by, system_of_file}
use Rattle.sysfile_core.specs.Runs.{Runs}
use Rattle.sysfile_core.specs.Slots.{system_bytes}
use Rattle.sysfile_core.specs.Writing.{slot_calls}
use Rattle.sys_restart.proofs.NameLemmas.{system_back, system_long, system_split}
use Rattle.node_disk.specs.Laws.{ASystemSlotStays, HasSystem, IsEither}
use Rattle.node_disk.specs.Saving.{noted_system}
use Rattle.node_disk.specs.Slots.{SlotsInUse}
use Rattle.node_disk.proofs.SlotLaw.{AreRead, Has, finds_either, finds_none, has_still, has_then}

-- one slot is later than another, where there is another
abbrev pub IsLater : SystemSlot → Option SystemSlot → Type 0
IsLater slot other = IfSome other (λ one. is_earlier one slot ≡ true)

either_way : (a b c : Bool) → a ≡ false → b ≡ true → c ≡ true → (a || (b && c)) ≡ true
either_way true b c not_so one other = refl
either_way false true true not_so one other = refl
either_way false false c not_so one other = absurd (true≢false (sym one))
either_way false true false not_so one other = absurd (true≢false (sym other))

neither_way : (a b c : Bool) → a ≡ false → (b ≡ true → c ≡ false) → (a || (b && c)) ≡ false
neither_way true b c one other = absurd (true≢false one)
neither_way false false c one other = refl
neither_way false true c one other = other refl

-- what a slot is earlier by
earlier_as : (one other : SystemSlot) → is_earlier one other ≡ true
    → (one.generation < other.generation) ⊎ ((one.generation ≡ other.generation) × (one.epoch < other.epoch))
earlier_as one other is =
    elim (cases_lt one.generation other.generation) [
      | inl less ↦ inl less
      | inr least ↦ inr (by (nat_lt one.generation other.generation) (one.generation == other.generation)
          (nat_lt one.epoch other.epoch) (le-ltb one.generation other.generation least) refl refl is)
    ]
  where
    by : (a b c : Bool) → a ≡ false → (one.generation == other.generation) ≡ b → nat_lt one.epoch other.epoch ≡ c
        → (a || (b && c)) ≡ true → (one.generation ≡ other.generation) × (one.epoch < other.epoch)
    by true b c not_so same less so = absurd (true≢false not_so)
    by false false c not_so same less so = absurd (true≢false (sym so))
    by false true false not_so same less so = absurd (true≢false (sym so))
    by false true true not_so same less so =
        (eqb-true one.generation other.generation same, ltb-true one.epoch other.epoch less)

-- no slot is earlier than one that is earlier
not_both : (one other : SystemSlot) → is_earlier one other ≡ true → is_earlier other one ≡ false
not_both one other is =
    elim (earlier_as one other is) [
      | inl less ↦
          neither_way (nat_lt other.generation one.generation) (other.generation == one.generation)
          (nat_lt other.epoch one.epoch) (le-ltb other.generation one.generation (omega (arith, less)))
          (λ same. absurd (omega (arith, less, eqb-true other.generation one.generation same)))
      | inr both ↦
          neither_way (nat_lt other.generation one.generation) (other.generation == one.generation)
          (nat_lt other.epoch one.epoch) (le-ltb other.generation one.generation (omega (arith, both.0)))
          (λ same. le-ltb other.epoch one.epoch (omega (arith, both.1)))
    ]

first_later : (slot : SystemSlot) (other : Option SystemSlot) → IsLater slot other
    → later_system (Some slot) other ≡ Some slot
first_later slot None is = refl
first_later slot (Some one) is = ap (λ (b : Bool). if b then Some one else Some slot) (not_both one slot is)

second_later : (slot : SystemSlot) (other : Option SystemSlot) → IsLater slot other
    → later_system other (Some slot) ≡ Some slot
second_later slot None is = refl
second_later slot (Some one) is = ap (λ (b : Bool). if b then Some slot else Some one) is

latest : (slot : SystemSlot) (which : ℕ) (bytes : List ℕ) (other : Option SystemSlot) → which ≤ 1
    → system_at which bytes ≡ Ok (Some slot) → system_at (1 - which) bytes ≡ Ok other → IsLater slot other
    → system_of_file bytes ≡ Ok (Some slot)
latest slot zero bytes other place stands beside is =
    ap (λ read. later_of read (system_at 1 bytes)) stands
    ∙ ap (λ read. later_of (Ok (Some slot)) read) beside
    ∙ ap Ok (first_later slot other is)
latest slot (suc zero) bytes other place stands beside is =
    ap (λ read. later_of read (system_at 1 bytes)) beside
    ∙ ap (λ read. later_of (Ok other) read) stands
    ∙ ap Ok (second_later slot other is)
latest slot (suc (suc n)) bytes other place stands beside is = absurd (omega (arith, place))

alike : (a b : List ℕ) (which : ℕ) → which ≤ 1 → system_at which a ≡ system_at which b
    → system_at (1 - which) a ≡ system_at (1 - which) b → system_of_file a ≡ system_of_file b
alike a b zero place one other =
    ap (λ read. later_of read (system_at 1 a)) one ∙ ap (later_of (system_at 0 b)) other
alike a b (suc zero) place one other =
    ap (λ read. later_of read (system_at 1 a)) other ∙ ap (later_of (system_at 0 b)) one
alike a b (suc (suc n)) place one other = absurd (omega (arith, place))

are_read : AreRead SystemSlot SYSTEM_BYTES system_by system_of_file IsLater
are_read =
    record { none_read = λ place. refl; none_before = λ slot other is. tt; latest = latest; alike = alike }

abbrev pub Stands : SlotsInUse → List Call → Type 0
Stands s calls = Has SystemSlot SYSTEM_FILE SYSTEM_BYTES system_by system_of_file IsLater s.system s.system_at calls

stands_of : (s : SlotsInUse) (calls : List Call) → HasSystem s calls → Stands s calls
stands_of s calls has = record {
  kept = has.kept;
  clean = has.clean;
  place = has.place;
  stands = has.stands;
  other = has.other;
  beside = has.beside;
  used = has.in_use;
  alone = tt;
}

of_stands : (s : SlotsInUse) (calls : List Call) → Stands s calls → HasSystem s calls
of_stands s calls has = record {
  kept = has.kept;
  clean = has.clean;
  place = has.place;
  stands = has.stands;
  other = has.other;
  beside = has.beside;
  in_use = has.used;
}

-- the slot that is written is later than the one in use
follows : (slot : SystemSlot) (epoch mask : ℕ) → nat_le epoch slot.epoch ≡ false
    → is_earlier slot (noted_system slot epoch mask) ≡ true
follows slot epoch mask more =
    elim (cases_lt slot.epoch epoch) [
      | inl less ↦
          either_way (nat_lt slot.generation slot.generation) (slot.generation == slot.generation)
          (nat_lt slot.epoch epoch) (le-ltb slot.generation slot.generation (omega arith))
          (eq-eqb slot.generation slot.generation refl) (lt-ltb slot.epoch epoch less)
      | inr most ↦ absurd (true≢false (sym (le-leb epoch slot.epoch most) ∙ more))
    ]

pub system_stays : ASystemSlotStays
system_stays s epoch mask before after ok has readable runs = by (nat_le epoch s.system.epoch) refl runs
  where
    next : SystemSlot
    next = noted_system s.system epoch mask

    all : List Call
    all =
        slot_calls (files_of before SYSTEM_FILE) SYSTEM_FILE (place_of (1 - s.system_at)) (drop 1 (system_bytes next))

    found : (place : ℕ) → system_by place (Some (system_bytes next)) ≡ Ok (Some next)
    found place = system_back place next readable

    by : (saved : Bool) → nat_le epoch s.system.epoch ≡ saved → Runs (if saved then [] else all) before (Some after) ok
        → LeavesOnly after (length before) (λ image. IsEither (system_of_file (image SYSTEM_FILE)) s.system next)
        × (ok ≡ true
        → HasSystem (if saved then s else record s { system = next; system_at = 1 - s.system_at }) after)
    by true is made = (
      finds_none SystemSlot SYSTEM_FILE SYSTEM_BYTES (omega arith) (omega arith) (omega arith) system_by system_of_file
          IsLater are_read s.system next s.system_at before after ok (stands_of s before has) made,
      λ so.
          of_stands s after
          (has_still SystemSlot SYSTEM_FILE SYSTEM_BYTES (omega arith) (omega arith) (omega arith) system_by
          system_of_file IsLater are_read s.system s.system_at before after ok (stands_of s before has) made),
    )
    by false is made = (
      finds_either SystemSlot SYSTEM_FILE SYSTEM_BYTES (omega arith) (omega arith) (omega arith) system_by
          system_of_file IsLater are_read s.system next s.system_at (system_bytes next) [] before after ok
          (stands_of s before has) (system_split next) (system_long next) found (follows s.system epoch mask is) tt
          made,
      λ so.
          of_stands (record s { system = next; system_at = 1 - s.system_at }) after
          (has_then SystemSlot SYSTEM_FILE SYSTEM_BYTES (omega arith) (omega arith) (omega arith) system_by
          system_of_file IsLater are_read s.system next s.system_at (system_bytes next) [] before after ok
          (stands_of s before has) (system_split next) (system_long next) found (follows s.system epoch mask is) tt made
          so),
    )
