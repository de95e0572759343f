-- The list of transactions, after one of them was written back.
use Rattle.std.proofs.Common.{◌≡◌, ◌∙◌, ℕ, zero, suc, true, List, [], ◌∷◌, slice_get, remove, Some, refl, ap, sym}
use Rattle.std.specs.Map.{keys_of, values_of}
use Rattle.std.specs.Prelude.{position}
use Rattle.indexmap.specs.IndexMap.{set_value_at}
use Rattle.sig_core.specs.declared.member.TxId.{TxId}
use Rattle.sig_core.specs.Same.{same_tx}
use Rattle.sig_core.proofs.Firsts.{place_by, position-cons}
use Rattle.tc_block.specs.declared.transaction.Transaction.{Transaction}
use Rattle.tc_block.specs.Live.{without}

-- whatever was written back, when it is removed the others are left
remove-set_value_at : {K X : Type 0} (es : List (K × X)) (i : ℕ) (w : X) → remove (set_value_at es i w) i ≡ remove es i
remove-set_value_at [] i w = refl
remove-set_value_at (e ∷ es) zero w = refl
remove-set_value_at (e ∷ es) (suc i) w = ap (λ rest. e ∷ rest) (remove-set_value_at es i w)

pub without-set_value_at : (live : List (TxId × Transaction)) (at : ℕ) (w : Transaction)
    → without (set_value_at live at w) at ≡ without live at
unfolding without
without-set_value_at live at w = remove-set_value_at live at w

-- what was there, written back, changes nothing
pub set_value_at-same : {K X : Type 0} (es : List (K × X)) (i : ℕ) (w : X) → slice_get (values_of es) i ≡ Some w
    → set_value_at es i w ≡ es
set_value_at-same [] i w is = refl
set_value_at-same (e ∷ es) zero w is = let same : e.1 ≡ w = cc in ap (λ x. (e.0, x) ∷ es) (sym same)
set_value_at-same (e ∷ es) (suc i) w is = ap (λ rest. e ∷ rest) (set_value_at-same es i w is)

-- the first one, where it is the one that is looked for
pub first_place : (live : List (TxId × Transaction)) (tx : TxId) (e : TxId × Transaction) → slice_get live 0 ≡ Some e
    → same_tx tx e.0 ≡ true → position (same_tx tx) (keys_of live) ≡ Some 0
first_place [] tx e is same = absurd cc
first_place (x ∷ xs) tx e is same =
    let own : x ≡ e = cc in
    let here : same_tx tx x.0 ≡ true = ap (λ p. same_tx tx p.0) own ∙ same in
    position-cons (same_tx tx) x.0 (keys_of xs) ∙ ap (λ b. place_by b (position (same_tx tx) (keys_of xs))) here

pub ruleset live = (without-set_value_at, set_value_at-same)
