-- The first item of a list that passes a test, once another was put, replaced or taken out.
use Rattle.std.proofs.Common.{◌≡◌, Bool, true, false, List, [], ◌∷◌, refl, sym, ap, ◌∙◌}
use Rattle.std.specs.Prelude.{if◌then◌else◌, None, Some}
use Rattle.sig_core.specs.Firsts.{drop_first, first}
use Rattle.sig_core.proofs.Firsts.{set_first}

module _ {X : Type 0} where
  -- it takes the place of the first that passes, or stands behind all
  abbrev pub put_first : (X → Bool) → X → List X → List X
  put_first p y [] = y ∷ []
  put_first p y (x ∷ xs) = if p x then y ∷ xs else x ∷ put_first p y xs

  -- nothing passes both
  abbrev pub Disjoint : (X → Bool) → (X → Bool) → Type 0
  Disjoint p q = (x : X) → p x ≡ true → q x ≡ false

  pub drop-none : (p : X → Bool) (xs : List X) → first p xs ≡ None → drop_first p xs ≡ xs
  drop-none p [] none = refl
  drop-none p (x ∷ xs) none = by (p x) none (drop-none p xs)
    where
      by : (b : Bool) → (if b then Some x else first p xs) ≡ None → (first p xs ≡ None → drop_first p xs ≡ xs)
          → (if b then xs else x ∷ drop_first p xs) ≡ x ∷ xs
      by true none more = absurd cc
      by false none more = ap (λ w. x ∷ w) (more none)

  module _ (p : X → Bool) (y : X) (own : p y ≡ true) where
    heads : (xs : List X) → first p (y ∷ xs) ≡ Some y
    heads xs = ap (λ b. if b then Some y else first p xs) own

    tails : (xs : List X) → drop_first p (y ∷ xs) ≡ xs
    tails xs = ap (λ b. if b then xs else y ∷ drop_first p xs) own

    pub first-put_own : (xs : List X) → first p (put_first p y xs) ≡ Some y
    first-put_own [] = heads []
    first-put_own (x ∷ xs) = by (p x) refl (first-put_own xs)
      where
        by : (b : Bool) → p x ≡ b → first p (put_first p y xs) ≡ Some y
            → first p (if b then y ∷ xs else x ∷ put_first p y xs) ≡ Some y
        by true e more = heads xs
        by false e more = ap (λ b. if b then Some x else first p (put_first p y xs)) e ∙ more

    pub drop-put_own : (xs : List X) → drop_first p (put_first p y xs) ≡ drop_first p xs
    drop-put_own [] = tails []
    drop-put_own (x ∷ xs) = by (p x) refl (drop-put_own xs)
      where
        by : (b : Bool) → p x ≡ b → drop_first p (put_first p y xs) ≡ drop_first p xs
            → drop_first p (if b then y ∷ xs else x ∷ put_first p y xs) ≡ (if b then xs else x ∷ drop_first p xs)
        by true e more = tails xs
        by false e more =
            ap (λ b. if b then put_first p y xs else x ∷ drop_first p (put_first p y xs)) e ∙ ap (λ w. x ∷ w) more

    pub first-set_own : (xs : List X) (r : X) → first p xs ≡ Some r → first p (set_first p y xs) ≡ Some y
    first-set_own [] r is = absurd cc
    first-set_own (x ∷ xs) r is = by (p x) refl is (first-set_own xs r)
      where
        by : (b : Bool) → p x ≡ b → (if b then Some x else first p xs) ≡ Some r
            → (first p xs ≡ Some r → first p (set_first p y xs) ≡ Some y)
            → first p (if b then y ∷ xs else x ∷ set_first p y xs) ≡ Some y
        by true e is more = heads xs
        by false e is more = ap (λ b. if b then Some x else first p (set_first p y xs)) e ∙ more is

    pub drop-set_own : (xs : List X) → drop_first p (set_first p y xs) ≡ drop_first p xs
    drop-set_own [] = refl
    drop-set_own (x ∷ xs) = by (p x) refl (drop-set_own xs)
      where
        by : (b : Bool) → p x ≡ b → drop_first p (set_first p y xs) ≡ drop_first p xs
            → drop_first p (if b then y ∷ xs else x ∷ set_first p y xs) ≡ (if b then xs else x ∷ drop_first p xs)
        by true e more = tails xs
        by false e more =
            ap (λ b. if b then set_first p y xs else x ∷ drop_first p (set_first p y xs)) e ∙ ap (λ w. x ∷ w) more

  module _ (p q : X → Bool) (two : Disjoint p q) where
    -- the other test goes on behind an item that passes this one
    passed_over : (x : X) (xs : List X) → p x ≡ true → first q (x ∷ xs) ≡ first q xs
    passed_over x xs e = ap (λ b. if b then Some x else first q xs) (two x e)

    pub first-put_other : (y : X) → q y ≡ false → (xs : List X) → first q (put_first p y xs) ≡ first q xs
    first-put_other y off [] = ap (λ b. if b then Some y else None) off
    first-put_other y off (x ∷ xs) = by (p x) refl (first-put_other y off xs)
      where
        by : (b : Bool) → p x ≡ b → first q (put_first p y xs) ≡ first q xs
            → first q (if b then y ∷ xs else x ∷ put_first p y xs) ≡ first q (x ∷ xs)
        by true e more = ap (λ b. if b then Some y else first q xs) off ∙ sym (passed_over x xs e)
        by false e more = ap (λ w. if q x then Some x else w) more

    pub drop-put_other : (y : X) → q y ≡ false → (xs : List X)
        → drop_first q (put_first p y xs) ≡ put_first p y (drop_first q xs)
    drop-put_other y off [] = ap (λ b. if b then [] else y ∷ []) off
    drop-put_other y off (x ∷ xs) = by (p x) refl (q x) refl (drop-put_other y off xs)
      where
        by : (b : Bool) → p x ≡ b → (c : Bool) → q x ≡ c
            → drop_first q (put_first p y xs) ≡ put_first p y (drop_first q xs)
            → drop_first q (if b then y ∷ xs else x ∷ put_first p y xs) ≡ put_first p y
            (if c then xs else x ∷ drop_first q xs)
        by true e true f more = absurd (let both : true ≡ false = sym f ∙ two x e in cc)
        by true e false f more =
            ap (λ b. if b then xs else y ∷ drop_first q xs) off
            ∙ sym (ap (λ b. if b then y ∷ drop_first q xs else x ∷ put_first p y (drop_first q xs)) e)
        by false e true f more = ap (λ b. if b then put_first p y xs else x ∷ drop_first q (put_first p y xs)) f
        by false e false f more =
            ap (λ b. if b then put_first p y xs else x ∷ drop_first q (put_first p y xs)) f ∙ ap (λ w. x ∷ w) more
            ∙ sym (ap (λ b. if b then y ∷ drop_first q xs else x ∷ put_first p y (drop_first q xs)) e)

    pub first-set_other : (y : X) → q y ≡ false → (xs : List X) → first q (set_first p y xs) ≡ first q xs
    first-set_other y off [] = refl
    first-set_other y off (x ∷ xs) = by (p x) refl (first-set_other y off xs)
      where
        by : (b : Bool) → p x ≡ b → first q (set_first p y xs) ≡ first q xs
            → first q (if b then y ∷ xs else x ∷ set_first p y xs) ≡ first q (x ∷ xs)
        by true e more = ap (λ b. if b then Some y else first q xs) off ∙ sym (passed_over x xs e)
        by false e more = ap (λ w. if q x then Some x else w) more

    pub drop-set_other : (y : X) → q y ≡ false → (xs : List X)
        → drop_first q (set_first p y xs) ≡ set_first p y (drop_first q xs)
    drop-set_other y off [] = refl
    drop-set_other y off (x ∷ xs) = by (p x) refl (q x) refl (drop-set_other y off xs)
      where
        by : (b : Bool) → p x ≡ b → (c : Bool) → q x ≡ c
            → drop_first q (set_first p y xs) ≡ set_first p y (drop_first q xs)
            → drop_first q (if b then y ∷ xs else x ∷ set_first p y xs) ≡ set_first p y
            (if c then xs else x ∷ drop_first q xs)
        by true e true f more = absurd (let both : true ≡ false = sym f ∙ two x e in cc)
        by true e false f more =
            ap (λ b. if b then xs else y ∷ drop_first q xs) off
            ∙ sym (ap (λ b. if b then y ∷ drop_first q xs else x ∷ set_first p y (drop_first q xs)) e)
        by false e true f more = ap (λ b. if b then set_first p y xs else x ∷ drop_first q (set_first p y xs)) f
        by false e false f more =
            ap (λ b. if b then set_first p y xs else x ∷ drop_first q (set_first p y xs)) f ∙ ap (λ w. x ∷ w) more
            ∙ sym (ap (λ b. if b then y ∷ drop_first q xs else x ∷ set_first p y (drop_first q xs)) e)

    pub first-drop_other : (xs : List X) → first q (drop_first p xs) ≡ first q xs
    first-drop_other [] = refl
    first-drop_other (x ∷ xs) = by (p x) refl (first-drop_other xs)
      where
        by : (b : Bool) → p x ≡ b → first q (drop_first p xs) ≡ first q xs
            → first q (if b then xs else x ∷ drop_first p xs) ≡ first q (x ∷ xs)
        by true e more = sym (passed_over x xs e)
        by false e more = ap (λ w. if q x then Some x else w) more

    pub drop-drop_other : (xs : List X) → drop_first q (drop_first p xs) ≡ drop_first p (drop_first q xs)
    drop-drop_other [] = refl
    drop-drop_other (x ∷ xs) = by (p x) refl (q x) refl (drop-drop_other xs)
      where
        by : (b : Bool) → p x ≡ b → (c : Bool) → q x ≡ c
            → drop_first q (drop_first p xs) ≡ drop_first p (drop_first q xs)
            → drop_first q (if b then xs else x ∷ drop_first p xs) ≡ drop_first p
            (if c then xs else x ∷ drop_first q xs)
        by true e true f more = absurd (let both : true ≡ false = sym f ∙ two x e in cc)
        by true e false f more = sym (ap (λ b. if b then drop_first q xs else x ∷ drop_first p (drop_first q xs)) e)
        by false e true f more = ap (λ b. if b then drop_first p xs else x ∷ drop_first q (drop_first p xs)) f
        by false e false f more =
            ap (λ b. if b then drop_first p xs else x ∷ drop_first q (drop_first p xs)) f ∙ ap (λ w. x ∷ w) more
            ∙ sym (ap (λ b. if b then drop_first q xs else x ∷ drop_first p (drop_first q xs)) e)
