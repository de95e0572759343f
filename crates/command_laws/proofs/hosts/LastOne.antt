-- The last of the API's transactions, where it alone passes a test.
use Rattle.std.proofs.Common.{◌≡◌, ℕ, Bool, true, false, List, [], ◌∷◌, ◌++◌, refl, sym, ap, ◌∙◌, arith}
use Rattle.std.proofs.lemmas.Bool.{false≢true}
use Rattle.std.proofs.lemmas.List.{append-nil}
use Rattle.std.specs.Prelude.{position, remove, slice_set}
use Rattle.run_theory.specs.Lists.{Each}
use Rattle.api_block.specs.declared.opened.OpenTransaction.{OpenTransaction}
use Rattle.api_block.specs.Opened.{where_at}
use Rattle.run_theory.proofs.Focus.{IsFocus}
use Rattle.api_block.proofs.WhereFound.{where_found}
use Rattle.run_theory.proofs.Tally.{tally_append}
use Rattle.run_theory.specs.Counts.{one_if}

-- what passes is the last
record IsLast {A : Type 0} (xs : List A) (t : A) (front : List A) (item : A) (back : List A) : Type 0 where
  item_is : item ≡ t
  front_is : front ≡ xs
  back_is : back ≡ []

empty : {A : Type 0} (xs : List A) (x : A) (ys : List A) → [] ≡ xs ++ x ∷ ys → ⊥
empty [] x ys is = cc
empty (z ∷ xs) x ys is = cc

last_one : {A : Type 0} (p : A → Bool) (xs : List A) (t : A) (front : List A) (item : A) (back : List A)
    → Each (λ x. p x ≡ false) xs → p item ≡ true → xs ++ t ∷ [] ≡ front ++ item ∷ back → IsLast xs t front item back
last_one p [] t [] item back none passes is = record { item_is = cc; front_is = refl; back_is = cc }
last_one p [] t (y ∷ front) item back none passes is =
    let rest : [] ≡ front ++ item ∷ back = cc in absurd (empty front item back rest)
last_one p (x ∷ xs) t [] item back none passes is =
    let same : x ≡ item = cc in absurd (false≢true (sym none.0 ∙ ap p same ∙ passes))
last_one p (x ∷ xs) t (y ∷ front) item back none passes is =
    let same : y ≡ x = cc in
    let rest : xs ++ t ∷ [] ≡ front ++ item ∷ back = cc in
    let l = last_one p xs t front item back none.1 passes rest in
    record {
      item_is = l.item_is;
      front_is = ap (λ z. z ∷ front) same ∙ ap (λ zs. x ∷ zs) l.front_is;
      back_is =
          l.back_is;
    }

-- the last at its place: what it becomes stands behind the same ones, and so it goes
pub record IsAtEnd (xs : List OpenTransaction) (t : OpenTransaction) (at : ℕ) (item : OpenTransaction) : Type 0 where
  pub item_is : item ≡ t
  pub set : (u : OpenTransaction) → slice_set (xs ++ t ∷ []) at u ≡ xs ++ u ∷ []
  pub removed : remove (xs ++ t ∷ []) at ≡ xs

-- what is so of it is so of what is said where it is found
pub where_last : {A : Type 0} (p : OpenTransaction → Bool) (xs : List OpenTransaction) (t : OpenTransaction) (none : A)
    (some : ℕ → OpenTransaction → A) (P : A → Type 0) → Each (λ x. p x ≡ false) xs → p t ≡ true
    → ((at : ℕ) (item : OpenTransaction) → IsAtEnd xs t at item → P (some at item))
    → P (where_at (xs ++ t ∷ []) none some (position p (xs ++ t ∷ [])))
where_last {A} p xs t none some P others passes present =
    where_found p (xs ++ t ∷ []) none some P
    (λ missing. absurd (omega (arith, missing, tally_append p xs (t ∷ []), ap one_if passes)))
    (λ at f. present at f.item (at_end at f))
  where
    at_end : (at : ℕ) (f : IsFocus p (xs ++ t ∷ []) at) → IsAtEnd xs t at f.item
    at_end at f = record {
      item_is = l.item_is;
      set = λ u. f.set u ∙ ap (λ zs. zs ++ u ∷ f.back) l.front_is ∙ ap (λ zs. xs ++ u ∷ zs) l.back_is;
      removed = f.removed ∙ ap (λ zs. zs ++ f.back) l.front_is ∙ ap (λ zs. xs ++ zs) l.back_is ∙ append-nil xs;
    }
      where
        l : IsLast xs t f.front f.item f.back
        l = last_one p xs t f.front f.item f.back others f.passes f.is
