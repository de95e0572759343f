-- Going along a list with a state, as long as each item is fine in the state before it.
use Rattle.std.proofs.Common.{◌≡◌, List, [], ◌∷◌, ◌++◌, get_or, drop, refl, ap, sym, ◌∙◌, subst}

module _ {S A : Type 0} (next : S → A → S) (Fine : S → A → Type 0) where
  -- the state after the items
  abbrev pub after : S → List A → S
  after s [] = s
  after s (x ∷ xs) = after (next s x) xs

  -- each item is fine
  abbrev pub AreFine : S → List A → Type 0
  AreFine s [] = Unit {0}
  AreFine s (x ∷ xs) = Fine s x × AreFine (next s x) xs

  -- of a list in which each item is fine, so is this one
  pub fine_there : (s : S) (xs : List A) (x : A) (behind : List A) → AreFine s (xs ++ x ∷ behind) → Fine (after s xs) x
  fine_there s [] x behind fine = fine.0
  fine_there s (y ∷ xs) x behind fine = fine_there (next s y) xs x behind fine.1

  -- equal lists have equal items in front, and behind it equal lists
  head_is : (x y : A) (xs ys : List A) → x ∷ xs ≡ y ∷ ys → x ≡ y
  head_is x y xs ys e = ap (λ zs. get_or zs 0 x) e

  tail_is : (x y : A) (xs ys : List A) → x ∷ xs ≡ y ∷ ys → xs ≡ ys
  tail_is x y xs ys e = ap (λ zs. drop 1 zs) e

  -- there is one item at most that is the first that isn't fine
  pub first_is_one : (s : S) (xs ys : List A) (x y : A) (behind1 behind2 : List A)
      → xs ++ x ∷ behind1 ≡ ys ++ y ∷ behind2
      → AreFine s xs → AreFine s ys → (Fine (after s xs) x → ⊥) → (Fine (after s ys) y → ⊥) → (xs ≡ ys) × (x ≡ y)
  first_is_one s [] [] x y behind1 behind2 e fine1 fine2 wrong1 wrong2 = (refl, head_is x y behind1 behind2 e)
  first_is_one s [] (z ∷ ys) x y behind1 behind2 e fine1 fine2 wrong1 wrong2 =
      absurd (wrong1 (subst (λ v. Fine s v) (sym (head_is x z behind1 (ys ++ y ∷ behind2) e)) fine2.0))
  first_is_one s (z ∷ xs) [] x y behind1 behind2 e fine1 fine2 wrong1 wrong2 =
      absurd (wrong2 (subst (λ v. Fine s v) (head_is z y (xs ++ x ∷ behind1) behind2 e) fine1.0))
  first_is_one s (z ∷ xs) (w ∷ ys) x y behind1 behind2 e fine1 fine2 wrong1 wrong2 =
      let same : z ≡ w = head_is z w (xs ++ x ∷ behind1) (ys ++ y ∷ behind2) e in
      let rest : (xs ≡ ys) × (x ≡ y) = first_is_one (next s z) xs ys x y behind1 behind2
      (tail_is z w (xs ++ x ∷ behind1) (ys ++ y ∷ behind2) e) fine1.1
      (subst (λ v. AreFine (next s v) ys) (sym same) fine2.1) wrong1
      (subst (λ v. Fine (after (next s v) ys) y → ⊥) (sym same) wrong2) in
      (ap (λ v. v ∷ xs) same ∙ ap (λ vs. w ∷ vs) rest.0, rest.1)
