-- The control slot that is the first of the next generation.
use Rattle.std.proofs.Common.{◌≡◌, ◌∙◌, ℕ, zero, suc, ◌+◌, ◌-◌, ◌*◌, ◌^◌, ◌≤◌, ◌<◌, ◌==◌, Bool, true, false, List, [], ◌∷◌, ◌++◌, length, take, drop, refl, ap, sym, arith, inl, inr, if◌then◌else◌}
use Rattle.std.specs.Prelude.{Option, None, Some, Ok, ◌||◌}
use Rattle.std.proofs.lemmas.Bool.{cases_lt, eqb-false, eqb-true, ne_eqb, true≢false}
use Rattle.std.proofs.lemmas.List.{length-drop, length-take}
use Rattle.host_io.specs.Call.{Call, Synced, Wrote}
use Rattle.host_io.specs.declared.limits.TheConstants.{FILE_SIZE}
use Rattle.sig_core.specs.declared.piece.TheConstants.{PIECE_BYTES}
use Rattle.sig_core.specs.declared.slots.ControlSlot.{ControlSlot}
use Rattle.sig_core.specs.declared.view.Shape.{Shape}
use Rattle.sysfile_core.specs.declared.control.TheConstants.{CONTROL_BYTES}
use Rattle.sysfile_core.specs.declared.place.TheConstants.{CONTROL_FILE, OPEN}
use Rattle.sysfile_core.specs.Reading.{control_in, control_of_file, unless_damaged}
use Rattle.sysfile_core.specs.Runs.{Runs}
use Rattle.sysfile_core.specs.Slots.{IsControlSlot, control_bytes, control_of}
use Rattle.sysfile_core.specs.Writing.{closing_by, opening}
use Rattle.sysfile_core.proofs.ReadLemmas.{control_read}
use Rattle.sys_restart.specs.declared.restored.Restored.{Restored}
use Rattle.sys_restart.specs.Calls.{checkpoint_for, is_used_up, next_file, next_parity, next_slot, piece_calls}
use Rattle.sys_restart.specs.Places.{control_places}
use Rattle.sys_restart.proofs.ControlLemmas.{in_use_is}
use Rattle.sys_restart.proofs.MomentLemmas.{AreOn}

pub next_file_is : (in_use : Option ControlSlot) → (2 ≤ next_file in_use) × (next_file in_use ≤ 3)
next_file_is None = (omega arith, omega arith)
next_file_is (Some slot) = by (slot.ckpt_file == 2)
  where
    by : (second : Bool) → (2 ≤ (if second then 3 else 2)) × ((if second then 3 else 2) ≤ 3)
    by true = (omega arith, omega arith)
    by false = (omega arith, omega arith)

next_parity_is : (in_use : Option ControlSlot) → next_parity in_use ≤ 1
next_parity_is None = omega arith
next_parity_is (Some slot) = by (slot.parity == 0)
  where
    by : (first : Bool) → (if first then 1 else 0) ≤ 1
    by true = omega arith
    by false = omega arith

-- the file that is written isn't that of the slot in use
next_apart : (slot : ControlSlot) → (next_file (Some slot) == slot.ckpt_file) ≡ false
next_apart slot = by (slot.ckpt_file == 2) refl
  where
    by : (second : Bool) → (slot.ckpt_file == 2) ≡ second → ((if second then 3 else 2) == slot.ckpt_file) ≡ false
    by true e =
        let is : slot.ckpt_file ≡ 2 = eqb-true slot.ckpt_file 2 e in
        ne_eqb 3 slot.ckpt_file (λ same. absurd (omega (arith, same, is)))
    by false e = ne_eqb 2 slot.ckpt_file (λ same. eqb-false slot.ckpt_file 2 e (sym same))

pub other_file : (generation : ℕ) (control : List ℕ) (slot : ControlSlot)
    → control_of_file generation control ≡ Ok (Some slot)
    → (next_file (control_places generation control).in_use == slot.ckpt_file) ≡ false
other_file generation control slot is =
    ap (λ in_use. next_file in_use == slot.ckpt_file) (in_use_is generation control (Some slot) is) ∙ next_apart slot

-- numbers that aren't used up
pub next_generation : (r : Restored) → r.generation < 2 ^ 64 → is_used_up r ≡ false → r.generation + 1 < 2 ^ 64
next_generation r below unused =
    elim (cases_lt (r.generation + 1) (2 ^ 64)) [
      | inl less ↦ less
      | inr last ↦
          absurd (eqb-false r.generation (2 ^ 64 - 1) (first_of (r.generation == 2 ^ 64 - 1) _ unused)
          (omega (arith, below, last)))
    ]
  where
    first_of : (a b : Bool) → (a || b) ≡ false → a ≡ false
    first_of true b is = absurd (true≢false is)
    first_of false b is = refl

-- the slot can be read back
pub next_is_slot : (r : Restored) (in_use : Option ControlSlot) (size : ℕ) → r.generation < 2 ^ 64 → r.epoch < 2 ^ 64
    → is_used_up r ≡ false → size < 2 ^ 64 → IsControlSlot (next_slot r in_use size)
next_is_slot r in_use size generation epoch unused small = record {
  least_file = (next_file_is in_use).0;
  most_file = (next_file_is in_use).1;
  parity = next_parity_is in_use;
  positions = refl;
  generation = next_generation r generation unused;
  serial = omega arith;
  saved = epoch;
  redo_start = omega arith;
  redo_end = omega arith;
  ckpt_size = small;
}

pub read_back : (place : ℕ) (slot : ControlSlot) → IsControlSlot slot
    → control_in place (control_bytes slot) ≡ Ok (Some slot)
unfolding control_in
read_back place slot is =
    let read = control_read slot is in
    ap (unless_damaged CONTROL_FILE place (control_bytes slot) (control_of (control_bytes slot))) read.0
    ∙ ap (λ (s : ControlSlot). Ok (Some s)) read.1

-- a slot's bytes are its gate and what follows it
pub control_split : (slot : ControlSlot) → OPEN ∷ drop 1 (control_bytes slot) ≡ control_bytes slot
unfolding control_bytes
control_split slot = refl

pub control_size : (slot : ControlSlot) → 1 + length (drop 1 (control_bytes slot)) ≡ CONTROL_BYTES
unfolding control_bytes
control_size slot = refl

pub control_long : (slot : ControlSlot) → length (control_bytes slot) ≡ CONTROL_BYTES
unfolding control_bytes
control_long slot = refl

-- the calls are on the files that they should be
pub pieces_on : (more file at end : ℕ) (bytes : List ℕ) → at + PIECE_BYTES * more ≤ end
    → AreOn file end (piece_calls more file at bytes ++ Synced file ∷ [])
unfolding piece_calls
pieces_on zero file at end bytes room = (refl, tt)
pieces_on (suc more) file at end [] room = (refl, tt)
pieces_on (suc more) file at end (byte ∷ bytes) room = (
  refl,
  (
    omega (arith, room, length-take PIECE_BYTES (byte ∷ bytes)),
    pieces_on more file (at + PIECE_BYTES) end (drop PIECE_BYTES (byte ∷ bytes)) (omega (arith, room)),
  ),
)

pub slot_on : (stands : Bool) (file place end : ℕ) (body : List ℕ) → place + (1 + length body) ≤ end
    → AreOn file end (closing_by stands file place ∷ opening file place body)
slot_on stands file place end body fits = by stands
  where
    rest : AreOn file end (opening file place body)
    rest = (refl, (refl, (omega (arith, fits), (refl, (refl, (omega (arith, fits), (refl, tt)))))))

    by : (b : Bool) → AreOn file end (closing_by b file place ∷ opening file place body)
    by true = (refl, rest)
    by false = (refl, (omega (arith, fits), rest))

-- bytes that were written fit into a file
pub pieces_fit : (more file at : ℕ) (bytes : List ℕ) (calls : List Call) (told : Option (List Call))
    → Runs (piece_calls more file at bytes ++ Synced file ∷ []) calls told true → length bytes ≤ more → 0 < length bytes
    → at + length bytes ≤ FILE_SIZE
unfolding piece_calls
pieces_fit zero file at bytes calls told runs few some = absurd (omega (arith, few, some))
pieces_fit (suc more) file at [] calls told runs few some = absurd (omega (arith, some))
pieces_fit (suc more) file at (byte ∷ bytes) calls told (inl (fails, not_so)) few some = absurd (true≢false not_so)
pieces_fit (suc more) file at (byte ∷ bytes) calls told (inr (may, runs)) few some =
    let all = byte ∷ bytes in
    let rest = drop PIECE_BYTES all in
    elim (cases_lt PIECE_BYTES (length all)) [
      | inl many ↦
          let behind : at + PIECE_BYTES + length rest ≤ FILE_SIZE =
          pieces_fit more file (at + PIECE_BYTES) rest (Wrote file at (take PIECE_BYTES all) ∷ calls) told runs
          (omega (arith, few, length-drop PIECE_BYTES all)) (omega (arith, many, length-drop PIECE_BYTES all)) in
          omega (arith, behind, length-drop PIECE_BYTES all, many)
      | inr last ↦ omega (arith, may.0.1, length-take PIECE_BYTES all, last)
    ]

-- a checkpoint isn't empty
pub some_checkpoint : (shape : Shape) (node : ℕ) (r : Restored) → 0 < length (checkpoint_for shape node r)
unfolding checkpoint_for
some_checkpoint shape node r = omega arith
