-- Which entries of a list pass a test, where some entry does.
use Rattle.std.proofs.Common.{◌≡◌, ◌||◌, Bool, true, false, List, [], ◌∷◌, refl, sym, inl, inr}
use Rattle.std.proofs.lemmas.Bool.{true≢false}
use Rattle.std.specs.List.{list_any}
use Rattle.run_theory.specs.Lists.{IsIn}

-- one of a list that passes a test
pub record Passes {A : Type 0} (p : A → Bool) (xs : List A) : Type 0 where
  pub item : A
  pub there : IsIn item xs
  pub is : p item ≡ true

pub passing : {A : Type 0} (p : A → Bool) (xs : List A) → list_any p xs ≡ true → Passes p xs
passing p [] some = absurd (true≢false (sym some))
passing p (x ∷ xs) some = by (p x) refl some (passing p xs)
  where
    by : (b : Bool) → p x ≡ b → (b || list_any p xs) ≡ true → (list_any p xs ≡ true → Passes p xs)
        → Passes p (x ∷ xs)
    by true own some rest = record { item = x; there = inl refl; is = own }
    by false off some rest = let one = rest some in record { item = one.item; there = inr one.there; is = one.is }
