-- What is read of a slot, and what calls come to that are made one after the other.
use Rattle.std.proofs.Common.{◌≡◌, ◌∙◌, ℕ, ◌+◌, ◌≤◌, Bool, true, false, ◌==◌, nat_le, ◌&&◌, List, [], ◌∷◌, ◌++◌, length}
use Rattle.std.proofs.Common.{take, drop, get_or, if◌then◌else◌, refl, ap, sym, subst, arith, inl, inr, append-nil}
use Rattle.std.specs.Prelude.{Option, None, Some, slice_index}
use Rattle.std.proofs.lemmas.Bool.{cases_lt, eqb-false, eqb-true, le-leb, lt-leb, true≢false}
use Rattle.std.proofs.lemmas.List.{drop_all, get_or-drop, get_or-take}
use Rattle.host_io.specs.Call.{Call, Synced, Wrote}
use Rattle.host_io.specs.Disk.{IsRead}
use Rattle.sysfile_core.specs.declared.place.TheConstants.{OPEN}
use Rattle.sysfile_core.specs.Places.{is_open, slot_at}
use Rattle.sysfile_core.specs.Runs.{Runs}
use Rattle.sysfile_core.specs.Writing.{closing_by, slot_calls, stands_closed}

-- what a read of a slot gives: whether it was read whole, and is open
pub slot_read : (bytes old new : List ℕ) (at count : ℕ) (all : Bool) → IsRead bytes at old new count → 1 ≤ length old
    → length new ≡ length old → (count == length new) ≡ all
    → slot_at at (length old) bytes ≡ (if all && (slice_index new 0 == OPEN) then Some new else None)
unfolding slot_at
slot_read bytes old new at count true is some size e =
    let counted : count ≡ length old = eqb-true count (length new) e ∙ size in
    let fits : at + length old ≤ length bytes = omega (arith, is.most, counted, some) in
    let long : nat_le (at + length old) (length bytes) ≡ true = le-leb (at + length old) (length bytes) fits in
    let taken : new ≡ take (length old) (drop at bytes) =
    is.copied
    ∙ ap (λ (n : ℕ). take n (drop at bytes) ++ drop n old) counted
    ∙ ap (λ rest. take (length old) (drop at bytes) ++ rest) (drop_all (length old) old (omega arith))
    ∙ append-nil (take (length old) (drop at bytes)) in
    let gate : get_or bytes at 0 ≡ get_or new 0 0 =
    ap (λ (p : ℕ). get_or bytes p 0) (omega arith)
    ∙ sym (ap (λ xs. get_or xs 0 0) taken
    ∙ get_or-take (length old) (drop at bytes) 0 0 (omega (arith, some))
    ∙ get_or-drop at bytes 0 0) in
    let same : is_open at (length old) bytes ≡ (get_or new 0 0 == OPEN) = rw (long, gate) refl in
    ap (λ (o : Bool). if o then Some (take (length old) (drop at bytes)) else None) same
    ∙ ap (λ xs. if get_or new 0 0 == OPEN then Some xs else None) (sym taken)
slot_read bytes old new at count false is some size e =
    elim (cases_lt (length bytes) (at + length old)) [
      | inl short ↦
          let cut : nat_le (at + length old) (length bytes) ≡ false = lt-leb (at + length old) (length bytes) short in
          rw cut refl
      | inr fits ↦ absurd (eqb-false count (length new) e (omega (arith, is.most, fits, size)))
    ]

-- calls that all succeeded, and others behind them
pub runs_then : (asks more calls : List Call) (mid told : Option (List Call)) (ok : Bool) → Runs asks calls mid true
    → ((after : List Call) → mid ≡ Some after → Runs more after told ok) → Runs (asks ++ more) calls told ok
runs_then [] more calls mid told ok runs behind = behind calls runs.0
runs_then (ask ∷ asks) more calls mid told ok (inl (fails, not_so)) behind = absurd (true≢false not_so)
runs_then (ask ∷ asks) more calls mid told ok (inr (may, runs)) behind =
    inr (may, runs_then asks more (ask ∷ calls) mid told ok runs behind)

-- a gate that was closed, what follows it and the gate that was opened are the write of a slot
pub slot_runs : (bytes body rest : List ℕ) (file place at : ℕ) (calls : List Call)
    (mid more told : Option (List Call)) (ok : Bool)
    → at ≡ place → rest ≡ body → Runs (closing_by (stands_closed at bytes) file at ∷ Synced file ∷ []) calls mid true
    → ((after : List Call) → mid ≡ Some after → Runs (Wrote file (at + 1) rest ∷ Synced file ∷ []) after more true)
    → ((after : List Call) → more ≡ Some after → Runs (Wrote file at (OPEN ∷ []) ∷ Synced file ∷ []) after told ok)
    → Runs (slot_calls bytes file place body) calls told ok
slot_runs bytes body rest file place at calls mid more told ok at_place is_body first second third =
    let one = closing_by (stands_closed at bytes) file at ∷ Synced file ∷ [] in
    let two = Wrote file (at + 1) rest ∷ Synced file ∷ [] in
    let three = Wrote file at (OPEN ∷ []) ∷ Synced file ∷ [] in
    let all : Runs (slot_calls bytes file at rest) calls told ok =
    runs_then one (two ++ three) calls mid told ok first
    (λ after is. runs_then two three after more told ok (second after is) third) in
    subst (λ (p : ℕ). Runs (slot_calls bytes file p body) calls told ok) at_place
    (subst (λ xs. Runs (slot_calls bytes file at xs) calls told ok) is_body all)
