-- Lists of which one has the entries of the other, in their order, and maybe more.
use Rattle.std.proofs.Common.{◌≡◌, ◌≤◌, ◌∙◌, ◌⊎◌, List, [], ◌∷◌, length, ap, arith, inl, inr, refl, subst}
use Rattle.run_theory.specs.Lists.{IsIn}

-- the entries of the first are among those of the second, in their order
abbrev pub AreAmong : {A : Type 0} → List A → List A → Type 0
AreAmong [] ys = Unit {0}
AreAmong (x ∷ xs) [] = ⊥
AreAmong (x ∷ xs) (y ∷ ys) = ((x ≡ y) × AreAmong xs ys) ⊎ AreAmong (x ∷ xs) ys

module _ {A : Type 0} where
  pub among_more : (y : A) (xs ys : List A) → AreAmong xs ys → AreAmong xs (y ∷ ys)
  among_more y [] ys among = tt
  among_more y (x ∷ xs) ys among = inr among

  pub among_same : (xs : List A) → AreAmong xs xs
  among_same [] = tt
  among_same (x ∷ xs) = inl (refl, among_same xs)

  pub among_trans : (xs ys zs : List A) → AreAmong xs ys → AreAmong ys zs → AreAmong xs zs
  among_trans [] ys zs one other = tt
  among_trans (x ∷ xs) [] zs one other = absurd one
  among_trans (x ∷ xs) (y ∷ ys) [] one other = absurd other
  among_trans (x ∷ xs) (y ∷ ys) (z ∷ zs) (inl one) (inl other) =
      inl (one.0 ∙ other.0, among_trans xs ys zs one.1 other.1)
  among_trans (x ∷ xs) (y ∷ ys) (z ∷ zs) (inr one) (inl other) = inr (among_trans (x ∷ xs) ys zs one other.1)
  among_trans (x ∷ xs) (y ∷ ys) (z ∷ zs) one (inr other) = inr (among_trans (x ∷ xs) (y ∷ ys) zs one other)

  pub among_length : (xs ys : List A) → AreAmong xs ys → length xs ≤ length ys
  among_length [] ys among = omega arith
  among_length (x ∷ xs) [] among = absurd among
  among_length (x ∷ xs) (y ∷ ys) (inl among) = omega (arith, among_length xs ys among.1)
  among_length (x ∷ xs) (y ∷ ys) (inr among) = omega (arith, among_length (x ∷ xs) ys among)

  -- where there are no more they are all
  pub among_all : (xs ys : List A) → AreAmong xs ys → length ys ≤ length xs → xs ≡ ys
  among_all [] [] among few = refl
  among_all [] (y ∷ ys) among few = absurd (omega (arith, few))
  among_all (x ∷ xs) [] among few = absurd among
  among_all (x ∷ xs) (y ∷ ys) (inl among) few =
      ap (λ (z : A). z ∷ xs) among.0 ∙ ap (λ (zs : List A). y ∷ zs) (among_all xs ys among.1 (omega (arith, few)))
  among_all (x ∷ xs) (y ∷ ys) (inr among) few =
      absurd (omega (arith, few, among_length (x ∷ xs) ys among))

  pub among_none : (xs ys : List A) → AreAmong xs ys → ys ≡ [] → xs ≡ []
  among_none [] ys among none = refl
  among_none (x ∷ xs) ys among none = absurd (subst (λ (zs : List A). AreAmong (x ∷ xs) zs) none among)

  pub among_in : (x : A) (xs ys : List A) → AreAmong xs ys → IsIn x xs → IsIn x ys
  among_in x [] ys among there = absurd there
  among_in x (y ∷ xs) [] among there = absurd among
  among_in x (y ∷ xs) (z ∷ ys) (inl among) (inl is) = inl (is ∙ among.0)
  among_in x (y ∷ xs) (z ∷ ys) (inl among) (inr there) = inr (among_in x xs ys among.1 there)
  among_in x (y ∷ xs) (z ∷ ys) (inr among) there = inr (among_in x (y ∷ xs) ys among there)
