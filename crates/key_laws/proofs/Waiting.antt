-- The requests that wait for one key.
use Rattle.std.proofs.Common.{◌≡◌, Bool, true, false, List, [], ◌∷◌, ◌++◌, refl, ◌∙◌, subst}
use Rattle.std.specs.Prelude.{if◌then◌else◌, Some}
use Rattle.run_theory.specs.Lists.{Each}
use Rattle.run_theory.proofs.Pasts.{each_append}
use Rattle.sig_core.specs.declared.member.TxId.{TxId}
use Rattle.sig_core.specs.Same.{same_tx}
use Rattle.sig_core.proofs.TxLemmas.{same_tx-is, same_tx-swap}
use Rattle.lqh_block.specs.declared.request.Request.{Request}
use Rattle.sig_core.specs.Firsts.{drop_first, first}
use Rattle.key_laws.specs.PrimaryEvents.{AreAlone, NoneOf}
use Rattle.key_laws.specs.Replica.{is_by}

pub each-drop_first : {A : Type 0} (P : A → Type 0) (p : A → Bool) (xs : List A) → Each P xs → Each P (drop_first p xs)
each-drop_first P p [] all = tt
each-drop_first {A} P p (x ∷ xs) all = by (p x) (each-drop_first P p xs all.1)
  where
    by : (b : Bool) → Each P (drop_first p xs) → Each P (if b then xs else x ∷ drop_first p xs)
    by true more = all.1
    by false more = (all.0, more)

pub each-first_item : {A : Type 0} (P : A → Type 0) (p : A → Bool) (xs : List A) (x : A) → Each P xs
    → first p xs ≡ Some x → P x
each-first_item P p [] x all is = absurd cc
each-first_item {A} P p (y ∷ xs) x all is = by (p y) is (each-first_item P p xs x all.1)
  where
    by : (b : Bool) → (if b then Some y else first p xs) ≡ Some x → (first p xs ≡ Some x → P x) → P x
    by true is more = let one : y ≡ x = cc in subst P one all.0
    by false is more = more is

pub alone-drop_first : (p : Request → Bool) (xs : List Request) → AreAlone xs → AreAlone (drop_first p xs)
alone-drop_first p [] alone = tt
alone-drop_first p (q ∷ xs) alone = by (p q) (alone-drop_first p xs alone.1)
  where
    by : (b : Bool) → AreAlone (drop_first p xs) → AreAlone (if b then xs else q ∷ drop_first p xs)
    by true more = alone.1
    by false more = (each-drop_first (λ (x : Request). same_tx x.tx q.tx ≡ false) p xs alone.0, more)

pub alone-end : (xs : List Request) (q : Request) → AreAlone xs → NoneOf q.tx xs → AreAlone (xs ++ q ∷ [])
alone-end [] q alone none = (tt, tt)
alone-end (x ∷ xs) q alone none = (
  each_append (λ (y : Request). same_tx y.tx x.tx ≡ false) xs (q ∷ []) alone.0 (same_tx-swap q.tx x.tx ∙ none.0, tt),
  alone-end xs q alone.1 none.1,
)

-- once a transaction's request is taken out the rest are of others
pub none-dropped : (tx : TxId) (xs : List Request) → AreAlone xs → NoneOf tx (drop_first (is_by tx) xs)
none-dropped tx [] alone = tt
none-dropped tx (q ∷ xs) alone = by (same_tx q.tx tx) refl (none-dropped tx xs alone.1)
  where
    by : (b : Bool) → same_tx q.tx tx ≡ b → NoneOf tx (drop_first (is_by tx) xs)
        → NoneOf tx (if b then xs else q ∷ drop_first (is_by tx) xs)
    by true e more = subst (λ t. NoneOf t xs) (same_tx-is q.tx tx e) alone.0
    by false e more = (e, more)
