-- What calls on the front of a control file leave of the slot that names the node.
use Rattle.std.proofs.Common.{◌≡◌, ◌∙◌, ℕ, ◌+◌, ◌≤◌, ◌<◌, ◌==◌, max, nat_lt, not, Bool, List, [], ◌∷◌, ◌++◌, length, get_or, refl, ap, sym, arith, inl, inr}
use Rattle.std.specs.Prelude.{◌&&◌}
use Rattle.std.proofs.lemmas.Bool.{cases_lt, le-ltb, lt-ltb}
use Rattle.host_io.specs.Call.{Call, Synced, Wrote}
use Rattle.host_io.proofs.FileLemmas.{laid_ends}
use Rattle.host_io.proofs.LaidLemmas.{laid_elsewhere, laid_reaches}
use Rattle.host_io.proofs.StateLemmas.{laid_grows}
use Rattle.redo_log.specs.Stored.{files_of}
use Rattle.sysfile_core.specs.declared.control.TheConstants.{CONTROL_BYTES}
use Rattle.sysfile_core.specs.declared.owner.TheConstants.{OWNER, OWNER_BYTES}
use Rattle.sysfile_core.specs.declared.place.TheConstants.{CLOSED, CONTROL_FILE, OPEN}
use Rattle.sysfile_core.specs.Owner.{is_of, named_by, owner_calls, owner_of, sync_if}
use Rattle.sysfile_core.specs.Places.{place_of, slot_at}
use Rattle.sysfile_core.specs.Writing.{closing_by, opening, slot_calls, stands_closed}
use Rattle.sysfile_core.proofs.RunLemmas.{done}
use Rattle.sysfile_core.proofs.SlotLemmas.{short_slot, slot_is_same}
use Rattle.sys_restart.specs.Calls.{closing_second, own_calls}
use Rattle.sys_restart.proofs.MomentLemmas.{AreOn, IsKeptBy, kept_in_the_end}
use Rattle.sys_restart.proofs.NextLemmas.{slot_on}

-- behind an end the bytes are those that were there, and none is there that wasn't
pub record IsSameBehind (end : ℕ) (old new : List ℕ) : Type 0 where
  pub grows : length old ≤ length new
  pub ends : length new ≤ max (length old) end
  pub same : (p : ℕ) → end ≤ p → p < length old → get_or new p 0 ≡ get_or old p 0

-- so it is after calls that end there
abbrev StaysBehind : ℕ → List ℕ → List Call → Type 0
StaysBehind end old calls = IsSameBehind end old (files_of calls CONTROL_FILE)

behind_kept : (end : ℕ) (old : List ℕ) → IsKeptBy CONTROL_FILE end (StaysBehind end old)
behind_kept end old = record {
  by_write = λ calls at bytes fits holds.
      record {
        grows = omega (arith, holds.grows, laid_grows at bytes (files_of calls CONTROL_FILE));
        ends = laid_ends at (max (length old) end) bytes (files_of calls CONTROL_FILE) holds.ends (omega (arith, fits));
        same = λ p behind below.
            laid_elsewhere at bytes (files_of calls CONTROL_FILE) p (omega (arith, below, holds.grows))
            (inr (omega (arith, fits, behind)))
            ∙ holds.same p behind below;
      };
  by_tear = λ calls at asked piece few fits holds.
      record {
        grows = omega (arith, holds.grows, laid_grows at piece (files_of calls CONTROL_FILE));
        ends = laid_ends at (max (length old) end) piece (files_of calls CONTROL_FILE) holds.ends
            (omega (arith, few, fits));
        same = λ p behind below.
            laid_elsewhere at piece (files_of calls CONTROL_FILE) p (omega (arith, below, holds.grows))
            (inr (omega (arith, few, fits, behind)))
            ∙ holds.same p behind below;
      };
  by_sync = λ calls holds. holds;
}

pub same_behind : (end : ℕ) (asks calls : List Call) → AreOn CONTROL_FILE end asks
    → IsSameBehind end (files_of calls CONTROL_FILE) (files_of (done asks calls) CONTROL_FILE)
same_behind end asks calls are =
    kept_in_the_end CONTROL_FILE end (StaysBehind end (files_of calls CONTROL_FILE)) asks calls
    (behind_kept end (files_of calls CONTROL_FILE)) are
    (record { grows = omega arith; ends = omega arith; same = λ p behind below. refl })

pub behind_further : (end far : ℕ) (old new : List ℕ) → end ≤ far → IsSameBehind end old new → IsSameBehind far old new
behind_further end far old new more is = record {
  grows = is.grows;
  ends = omega (arith, is.ends, more);
  same = λ p behind below. is.same p (omega (arith, more, behind)) below;
}

-- what stands behind is the same slot
pub slot_behind : (end place size : ℕ) (old new : List ℕ) → IsSameBehind end old new → end ≤ place → 0 < size
    → slot_at place size new ≡ slot_at place size old
slot_behind end place size old new is before some =
    elim (cases_lt (length old) (place + size)) [
      | inl short ↦
          short_slot place size new (omega (arith, is.ends, short, before, some))
          ∙ sym (short_slot place size old short)
      | inr within ↦
          slot_is_same place size new old some (omega (arith, is.grows, within)) within
          (λ p low high. is.same p (omega (arith, before, low)) (omega (arith, high, within)))
    ]

pub stands_behind : (end place : ℕ) (old new : List ℕ) → IsSameBehind end old new → end ≤ place
    → stands_closed place new ≡ stands_closed place old
stands_behind end place old new is before =
    elim (cases_lt place (length old)) [
      | inl within ↦
          ap (λ (b : Bool). b && not (get_or new place 0 == OPEN))
          (lt-ltb place (length new) (omega (arith, is.grows, within))
          ∙ sym (lt-ltb place (length old) within))
          ∙ ap (λ (byte : ℕ). nat_lt place (length old) && not (byte == OPEN)) (is.same place before within)
      | inr short ↦
          ap (λ (b : Bool). b && not (get_or new place 0 == OPEN))
          (le-ltb place (length new) (omega (arith, is.ends, short, before)))
          ∙ sym (ap (λ (b : Bool). b && not (get_or old place 0 == OPEN)) (le-ltb place (length old) short))
    ]

-- the size of a file that reaches just over the second place of a control slot
abbrev pub front_size : ℕ
front_size = place_of 1 + CONTROL_BYTES

pub owner_behind : (old new : List ℕ) → IsSameBehind front_size old new → owner_of new ≡ owner_of old
owner_behind old new is =
    ap named_by (slot_behind front_size (place_of OWNER) OWNER_BYTES old new is (omega arith) (omega arith))

-- so the calls that write it are the same
pub owner_calls_same : (node : ℕ) (old new : List ℕ) → IsSameBehind front_size old new
    → owner_calls node new ≡ owner_calls node old
owner_calls_same node old new is =
    ap
    (λ found. sync_if (is_of node found) (slot_calls new CONTROL_FILE (place_of OWNER) (node ∷ [])))
    (owner_behind old new is)
    ∙ ap
    (λ (stands : Bool). sync_if (is_of node (owner_of old))
    (closing_by stands CONTROL_FILE (place_of OWNER) ∷ opening CONTROL_FILE (place_of OWNER) (node ∷ [])))
    (stands_behind front_size (place_of OWNER) old new is (omega arith))

-- the calls that close the gate of the second place
pub gate_on : (end : ℕ) → place_of 1 + 1 ≤ end
    → AreOn CONTROL_FILE end (Wrote CONTROL_FILE (place_of 1) (CLOSED ∷ []) ∷ Synced CONTROL_FILE ∷ [])
gate_on end fits = (refl, (fits, (refl, tt)))

-- a file reaches the end of a slot that was written
slot_reaches : (stands : Bool) (place : ℕ) (body : List ℕ) (calls : List Call) → 0 < length body
    → place + (1 + length body)
    ≤ length (files_of (done (closing_by stands CONTROL_FILE place ∷ opening CONTROL_FILE place body) calls)
    CONTROL_FILE)
slot_reaches stands place body calls some =
    let before = Synced CONTROL_FILE ∷ closing_by stands CONTROL_FILE place ∷ calls in
    let rest = Synced CONTROL_FILE ∷ Wrote CONTROL_FILE (place + 1) body ∷ before in
    let reach = laid_reaches (place + 1) body (files_of before CONTROL_FILE) some in
    let grows = laid_grows place (OPEN ∷ []) (files_of rest CONTROL_FILE) in
    omega (arith, reach, grows)

-- the write of a control slot, of which this follows the gate, at one of the two places
module _ (which : ℕ) (stands : Bool) (body : List ℕ) (calls : List Call) (few : which ≤ 1)
    (long : 1 + length body ≡ CONTROL_BYTES) where
  abbrev asks : List Call
  asks = closing_by stands CONTROL_FILE (place_of which) ∷ opening CONTROL_FILE (place_of which) body

  abbrev old : List ℕ
  old = files_of calls CONTROL_FILE

  abbrev new : List ℕ
  new = files_of (done asks calls) CONTROL_FILE

  same_front : IsSameBehind (place_of which + CONTROL_BYTES) old new
  same_front =
      same_behind (place_of which + CONTROL_BYTES) asks calls
      (slot_on stands CONTROL_FILE (place_of which) (place_of which + CONTROL_BYTES) body (omega (arith, long)))

  -- how long the file is behind it
  pub slot_size : length new ≡ max (length old) (place_of which + CONTROL_BYTES)
  slot_size =
      let grows = same_front.grows in
      let ends = same_front.ends in
      let reach = slot_reaches stands (place_of which) body calls (omega (arith, long)) in
      omega (arith, grows, ends, reach, long)

  -- the calls that make the file the node's own are those of the bytes before
  pub own_same : (node : ℕ)
      → own_calls node (length new) new ≡ own_calls node (max (length old) (place_of which + CONTROL_BYTES)) old
  own_same node =
      ap (λ (n : ℕ). own_calls node n new) slot_size
      ∙ ap (λ owner. closing_second (max (length old) (place_of which + CONTROL_BYTES)) ++ owner)
      (owner_calls_same node old new
      (behind_further (place_of which + CONTROL_BYTES) front_size old new (omega (arith, few)) same_front))
