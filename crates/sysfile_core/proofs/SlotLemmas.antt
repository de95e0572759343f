-- Which slots the bytes of a file have.
use Rattle.std.proofs.Common.{◌≡◌, ◌≢◌, ◌∙◌, ◌⊎◌, ℕ, suc, zero, ◌+◌, ◌≤◌, ◌<◌, Bool, true, false, nat_le, ◌&&◌, ◌==◌}
use Rattle.std.proofs.Common.{List, ◌∷◌, length, take, drop, get_or, if◌then◌else◌, refl, ap, sym, arith, inl, inr}
use Rattle.std.proofs.Common.{length-drop}
use Rattle.std.specs.Prelude.{None, Some}
use Rattle.std.proofs.lemmas.Bool.{and_parts, eq-eqb, eqb-true, le-leb, leb-true, lt-leb, ne_eqb}
use Rattle.std.proofs.lemmas.List.{ext_get_or, get_or-drop, get_or-take, length-take-le}
use Rattle.sysfile_core.specs.declared.place.TheConstants.{OPEN}
use Rattle.sysfile_core.specs.Places.{is_open, slot_at}

length_taken : (place size : ℕ) (bytes : List ℕ) → place + size ≤ length bytes
    → length (take size (drop place bytes)) ≡ size
length_taken place size bytes fits =
    length-take-le size (drop place bytes) (omega (arith, length-drop place bytes, fits))

taken_at : (place size : ℕ) (bytes : List ℕ) (i : ℕ) → i < size
    → get_or (take size (drop place bytes)) i 0 ≡ get_or bytes (place + i) 0
taken_at place size bytes i below = get_or-take size (drop place bytes) i 0 below ∙ get_or-drop place bytes i 0

-- bytes that agree from a place on have the same slot there
pub slot_is_same : (place size : ℕ) (one other : List ℕ) → 0 < size → place + size ≤ length one
    → place + size ≤ length other
    → ((p : ℕ) → place ≤ p → p < place + size → get_or one p 0 ≡ get_or other p 0)
    → slot_at place size one ≡ slot_at place size other
unfolding slot_at
slot_is_same place size one other some fits_one fits_other same =
    let gates : get_or one place 0 ≡ get_or other place 0 = same place (omega arith) (omega (arith, some)) in
    let long_one : nat_le (place + size) (length one) ≡ true = le-leb (place + size) (length one) fits_one in
    let long_other : nat_le (place + size) (length other) ≡ true = le-leb (place + size) (length other) fits_other in
    let opened : is_open place size one ≡ is_open place size other = rw (long_one, long_other, gates) refl in
    let bytes : take size (drop place one) ≡ take size (drop place other) =
    ext_get_or 0 (take size (drop place one)) (take size (drop place other))
    (length_taken place size one fits_one ∙ sym (length_taken place size other fits_other))
    (λ i below.
    let within : i < size = omega (arith, below, length_taken place size one fits_one) in
    taken_at place size one i within
    ∙ same (place + i) (omega arith) (omega (arith, within))
    ∙ sym (taken_at place size other i within)) in
    ap (λ o. if o then Some (take size (drop place one)) else None) opened
    ∙ ap (λ t. if is_open place size other then Some t else None) bytes

-- bytes that end before the slot does have none
pub short_slot : (place size : ℕ) (bytes : List ℕ) → length bytes < place + size → slot_at place size bytes ≡ None
unfolding slot_at
short_slot place size bytes short =
    let not_so : nat_le (place + size) (length bytes) ≡ false = lt-leb (place + size) (length bytes) short in
    rw not_so refl

by_gate : (long opened : Bool) (found : List ℕ) → opened ≡ false → (if long && opened then Some found else None) ≡ None
by_gate true opened found not_so = rw not_so refl
by_gate false opened found not_so = refl

pub closed_slot : (place size : ℕ) (bytes : List ℕ) → get_or bytes place 0 ≢ OPEN → slot_at place size bytes ≡ None
unfolding slot_at
closed_slot place size bytes closed =
    by_gate (nat_le (place + size) (length bytes)) (get_or bytes place 0 == OPEN) (take size (drop place bytes))
    (ne_eqb (get_or bytes place 0) OPEN closed)

-- what an open slot says of the bytes
pub record IsOpenAt (place size : ℕ) (bytes : List ℕ) : Type 0 where
  pub fits : place + size ≤ length bytes
  pub gate : get_or bytes place 0 ≡ OPEN

pub open_or_none : (place size : ℕ) (bytes : List ℕ) → IsOpenAt place size bytes ⊎ (slot_at place size bytes ≡ None)
unfolding slot_at
open_or_none place size bytes = by (is_open place size bytes) refl
  where
    by : (o : Bool) → is_open place size bytes ≡ o
        → IsOpenAt place size bytes
        ⊎ ((if is_open place size bytes then Some (take size (drop place bytes)) else None) ≡ None)
    by true e =
        let parts = and_parts (nat_le (place + size) (length bytes)) (get_or bytes place 0 == OPEN) e in
        inl (record {
          fits = leb-true (place + size) (length bytes) parts.0;
          gate = eqb-true (get_or bytes place 0) OPEN parts.1;
        })
    by false e = inr (rw e refl)

-- bytes that have a slot behind an open gate
pub whole_slot : (place : ℕ) (body bytes : List ℕ) → place + (1 + length body) ≤ length bytes
    → get_or bytes place 0 ≡ OPEN
    → ((k : ℕ) → k < length body → get_or bytes (place + 1 + k) 0 ≡ get_or body k 0)
    → slot_at place (1 + length body) bytes ≡ Some (OPEN ∷ body)
unfolding slot_at
whole_slot place body bytes fits gate rest =
    let size = 1 + length body in
    let long : nat_le (place + size) (length bytes) ≡ true = le-leb (place + size) (length bytes) fits in
    let is : (get_or bytes place 0 == OPEN) ≡ true = eq-eqb (get_or bytes place 0) OPEN gate in
    let taken : take size (drop place bytes) ≡ OPEN ∷ body =
    ext_get_or 0 (take size (drop place bytes)) (OPEN ∷ body)
    (length_taken place size bytes fits ∙ omega arith)
    (λ i below. by i (omega (arith, below, length_taken place size bytes fits))) in
    rw (long, is) (ap Some taken)
  where
    by : (i : ℕ) → i < 1 + length body → get_or (take (1 + length body) (drop place bytes)) i 0
        ≡ get_or (OPEN ∷ body) i 0
    by zero below =
        taken_at place (1 + length body) bytes zero below ∙ ap (λ (p : ℕ). get_or bytes p 0) (omega arith) ∙ gate
    by (suc k) below =
        taken_at place (1 + length body) bytes (suc k) below
        ∙ ap (λ (p : ℕ). get_or bytes p 0) (omega arith)
        ∙ rest k (omega (arith, below))
