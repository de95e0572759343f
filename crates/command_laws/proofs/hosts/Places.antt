-- An item of a list with what stands before and behind it.
use Rattle.std.proofs.Common.{◌≡◌, ℕ, zero, suc, Bool, true, false, List, [], ◌∷◌, ◌++◌, length, refl, sym, ap, ◌∙◌}
use Rattle.std.proofs.Common.{arith}
use Rattle.std.specs.Prelude.{Option, None, Some, position, slice_get, slice_set}
use Rattle.run_theory.specs.Counts.{one_if, tally}
use Rattle.sig_core.proofs.Firsts.{place_by, position-cons}

module _ {X : Type 0} where
  -- it stands at this place
  pub record IsAt (xs : List X) (at : ℕ) (x : X) : Type 0 where
    pub front : List X
    pub back : List X
    pub is : xs ≡ front ++ x ∷ back
    pub place : length front ≡ at

  pub split_at : (xs : List X) (at : ℕ) (x : X) → slice_get xs at ≡ Some x → IsAt xs at x
  split_at [] at x get = absurd cc
  split_at (y ∷ xs) zero x get =
      let same : y ≡ x = cc in
      record { front = []; back = xs; is = ap (λ w. w ∷ xs) same; place = refl }
  split_at (y ∷ xs) (suc at) x get = further (split_at xs at x get)
    where
      further : IsAt xs at x → IsAt (y ∷ xs) (suc at) x
      further f = record { front = y ∷ f.front; back = f.back; is = ap (λ w. y ∷ w) f.is; place = ap suc f.place }

  -- it stands behind the front
  pub split_position : (p : X → Bool) (front : List X) (x : X) (back : List X) → tally p front ≡ 0 → p x ≡ true
      → position p (front ++ x ∷ back) ≡ Some (length front)
  split_position p [] x back none passes = position-cons p x back ∙ ap (λ b. place_by b (position p back)) passes
  split_position p (y ∷ front) x back none passes =
      by (p y) refl (split_position p front x back (omega (arith, none)) passes)
    where
      by : (b : Bool) → p y ≡ b → position p (front ++ x ∷ back) ≡ Some (length front)
          → position p (y ∷ (front ++ x ∷ back)) ≡ Some (length (y ∷ front))
      by true e rest = absurd (omega (arith, none, ap one_if e))
      by false e rest = position-cons p y (front ++ x ∷ back) ∙ ap (λ b. place_by b (position p (front ++ x ∷ back))) e
          ∙ ap (place_by false) rest

  pub split_get : (front : List X) (x : X) (back : List X) → slice_get (front ++ x ∷ back) (length front) ≡ Some x
  split_get [] x back = refl
  split_get (y ∷ front) x back = split_get front x back

  pub split_set : (front : List X) (x : X) (back : List X) (u : X)
      → slice_set (front ++ x ∷ back) (length front) u ≡ front ++ u ∷ back
  split_set [] x back u = refl
  split_set (y ∷ front) x back u = ap (λ w. y ∷ w) (split_set front x back u)
