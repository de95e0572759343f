-- The list of a coordinator's transactions, where one of them takes a step or is forgotten.
use Rattle.std.proofs.Common.{◌≡◌, ℕ, suc, Bool, true, false, List, [], ◌∷◌, ◌++◌, refl, sym, ap, ◌∙◌, subst}
use Rattle.std.specs.Map.{keys_of, values_of}
use Rattle.std.specs.Prelude.{Option, None, Some, position, remove, slice_get, if◌then◌else◌}
use Rattle.indexmap.specs.IndexMap.{insert_entry, set_value_at}
use Rattle.run_theory.specs.Lists.{Each}
use Rattle.run_theory.proofs.Pasts.{each_after, each_append, each_before}
use Rattle.sig_core.specs.declared.member.TxId.{TxId}
use Rattle.sig_core.specs.Same.{same_tx}
use Rattle.sig_core.proofs.TxLemmas.{same_tx-is, same_tx-swap}
use Rattle.tc_block.specs.declared.transaction.Transaction.{Transaction}
use Rattle.sig_core.proofs.Firsts.{behind, nothing_behind, place_by, position-cons}

abbrev pub Live : Type 0
Live = List (TxId × Transaction)

-- the transaction stands at this place of the list
pub record Split (tx : TxId) (t : Transaction) (live : Live) (at : ℕ) : Type 0 where
  pub front : Live
  pub back : Live
  pub is : live ≡ front ++ (tx, t) ∷ back
  pub set : (w : Transaction) → set_value_at live at w ≡ front ++ (tx, w) ∷ back
  pub gone : remove live at ≡ front ++ back

pub split_at : (tx : TxId) (live : Live) (at : ℕ) (t : Transaction) → position (same_tx tx) (keys_of live) ≡ Some at
    → slice_get (values_of live) at ≡ Some t → Split tx t live at
split_at tx [] at t is there = absurd cc
split_at tx (e ∷ es) at t is there =
    by (same_tx tx e.0) refl (sym (position-cons (same_tx tx) e.0 (keys_of es)) ∙ is)
    (λ m found. split_at tx es m t found)
  where
    here : 0 ≡ at → tx ≡ e.0 → Split tx t (e ∷ es) at
    here zero_is own = subst (Split tx t (e ∷ es)) zero_is
        (at_zero (ap (slice_get (values_of (e ∷ es))) zero_is ∙ there))
      where
        at_zero : Some e.1 ≡ Some t → Split tx t (e ∷ es) 0
        at_zero both =
            let value : e.1 ≡ t = cc in
            record {
              front = [];
              back = es;
              is = λ i. (sym own i, value i) ∷ es;
              set = λ w. λ i. (sym own i, w) ∷ es;
              gone = refl;
            }

    further : (m : ℕ) → suc m ≡ at → Split tx t es m → Split tx t (e ∷ es) at
    further m next more = subst (Split tx t (e ∷ es)) next
        (record {
          front = e ∷ more.front;
          back = more.back;
          is = ap (λ w. e ∷ w) more.is;
          set = λ w. ap (λ rest. e ∷ rest) (more.set w);
          gone = ap (λ rest. e ∷ rest) more.gone;
        })

    by : (b : Bool) → same_tx tx e.0 ≡ b → place_by b (position (same_tx tx) (keys_of es)) ≡ Some at
        → ((m : ℕ) → position (same_tx tx) (keys_of es) ≡ Some m → slice_get (values_of es) m ≡ Some t
        → Split tx t es m) → Split tx t (e ∷ es) at
    by true own is more = let zero_is : 0 ≡ at = cc in here zero_is (same_tx-is tx e.0 own)
    by false off is more =
        let last = behind (position (same_tx tx) (keys_of es)) at is in
        further last.place last.next
        (more last.place last.found (ap (slice_get (values_of (e ∷ es))) last.next ∙ there))

-- where there is a place there is a transaction
pub no_value : (tx : TxId) (live : Live) (at : ℕ) → position (same_tx tx) (keys_of live) ≡ Some at
    → slice_get (values_of live) at ≡ None → ⊥
no_value tx [] at is none = cc
no_value tx (e ∷ es) at is none =
    by (same_tx tx e.0) (sym (position-cons (same_tx tx) e.0 (keys_of es)) ∙ is) (no_value tx es)
  where
    by : (b : Bool) → place_by b (position (same_tx tx) (keys_of es)) ≡ Some at
        → ((m : ℕ) → position (same_tx tx) (keys_of es) ≡ Some m → slice_get (values_of es) m ≡ None → ⊥) → ⊥
    by true is more =
        let zero_is : 0 ≡ at = cc in
        let gone : Some e.1 ≡ None = ap (slice_get (values_of (e ∷ es))) zero_is ∙ none in cc
    by false is more =
        let last = behind (position (same_tx tx) (keys_of es)) at is in
        more last.place last.found (ap (slice_get (values_of (e ∷ es))) last.next ∙ none)

-- these transactions are all others
abbrev pub AreOthers : TxId → Live → Type 0
AreOthers tx live = Each (λ (x : TxId × Transaction). same_tx x.0 tx ≡ false) live

-- so they are where the transaction has no place
pub no_place : (tx : TxId) (live : Live) → position (same_tx tx) (keys_of live) ≡ None → AreOthers tx live
no_place tx [] is = tt
no_place tx (e ∷ es) is =
    by (same_tx tx e.0) refl (sym (position-cons (same_tx tx) e.0 (keys_of es)) ∙ is) (no_place tx es)
  where
    by : (b : Bool) → same_tx tx e.0 ≡ b → place_by b (position (same_tx tx) (keys_of es)) ≡ None
        → (position (same_tx tx) (keys_of es) ≡ None → AreOthers tx es) → AreOthers tx (e ∷ es)
    by true own is more = absurd (let first : ◌≡◌ {A = Option ℕ} (Some 0) None = is in cc)
    by false own is more = (same_tx-swap e.0 tx ∙ own, more (nothing_behind (position (same_tx tx) (keys_of es)) is))

-- no transaction stands twice
abbrev pub KeysOnce : Live → Type 0
KeysOnce [] = Unit {0}
KeysOnce (e ∷ es) = Each (λ (x : TxId × Transaction). same_tx x.0 e.0 ≡ false) es × KeysOnce es

pub once_set : (front back : Live) (tx : TxId) (t w : Transaction) → KeysOnce (front ++ (tx, t) ∷ back)
    → KeysOnce (front ++ (tx, w) ∷ back)
once_set [] back tx t w once = once
once_set (e ∷ front) back tx t w once =
    let P : TxId × Transaction → Type 0 = λ x. same_tx x.0 e.0 ≡ false in
    let all = each_after P front ((tx, t) ∷ back) once.0 in (
      each_append P front ((tx, w) ∷ back) (each_before P front ((tx, t) ∷ back) once.0) (all.0, all.1),
      once_set front back tx t w once.1,
    )

pub once_gone : (front back : Live) (tx : TxId) (t : Transaction) → KeysOnce (front ++ (tx, t) ∷ back)
    → KeysOnce (front ++ back)
once_gone [] back tx t once = once.1
once_gone (e ∷ front) back tx t once =
    let P : TxId × Transaction → Type 0 = λ x. same_tx x.0 e.0 ≡ false in (
      each_append P front back (each_before P front ((tx, t) ∷ back) once.0)
          (each_after P front ((tx, t) ∷ back) once.0).1,
      once_gone front back tx t once.1,
    )

-- the others are others
pub once_front : (front back : Live) (tx : TxId) (t : Transaction) → KeysOnce (front ++ (tx, t) ∷ back)
    → Each (λ (x : TxId × Transaction). same_tx x.0 tx ≡ false) front
once_front [] back tx t once = tt
once_front (e ∷ front) back tx t once = (
  same_tx-swap e.0 tx
      ∙ (each_after (λ (x : TxId × Transaction). same_tx x.0 e.0 ≡ false) front ((tx, t) ∷ back) once.0).0,
  once_front front back tx t once.1,
)

pub once_back : (front back : Live) (tx : TxId) (t : Transaction) → KeysOnce (front ++ (tx, t) ∷ back)
    → Each (λ (x : TxId × Transaction). same_tx x.0 tx ≡ false) back
once_back [] back tx t once = once.0
once_back (e ∷ front) back tx t once = once_back front back tx t once.1

-- a new transaction stands last
pub each_inserted : (P : TxId × Transaction → Type 0) (live : Live) (tx : TxId) (t : Transaction)
    → Each (λ (x : TxId × Transaction). same_tx x.0 tx ≡ false) live → P (tx, t) → Each P live
    → Each P (insert_entry same_tx live tx t)
each_inserted P [] tx t apart own all = (own, tt)
each_inserted P (e ∷ es) tx t apart own all = by (same_tx tx e.0) refl (each_inserted P es tx t apart.1 own all.1)
  where
    by : (b : Bool) → same_tx tx e.0 ≡ b → Each P (insert_entry same_tx es tx t)
        → Each P (if b then (e.0, t) ∷ es else e ∷ insert_entry same_tx es tx t)
    by true e_is more = absurd (let both : true ≡ false = sym e_is ∙ (same_tx-swap tx e.0 ∙ apart.0) in cc)
    by false e_is more = (all.0, more)

pub once_inserted : (live : Live) (tx : TxId) (t : Transaction)
    → Each (λ (x : TxId × Transaction). same_tx x.0 tx ≡ false) live → KeysOnce live
    → KeysOnce (insert_entry same_tx live tx t)
once_inserted [] tx t apart once = (tt, tt)
once_inserted (e ∷ es) tx t apart once = by (same_tx tx e.0) refl (once_inserted es tx t apart.1 once.1)
  where
    by : (b : Bool) → same_tx tx e.0 ≡ b → KeysOnce (insert_entry same_tx es tx t)
        → KeysOnce (if b then (e.0, t) ∷ es else e ∷ insert_entry same_tx es tx t)
    by true e_is more = absurd (let both : true ≡ false = sym e_is ∙ (same_tx-swap tx e.0 ∙ apart.0) in cc)
    by false e_is more = (
      each_inserted (λ (x : TxId × Transaction). same_tx x.0 e.0 ≡ false) es tx t apart.1
          (same_tx-swap tx e.0 ∙ apart.0) once.0,
      more,
    )
