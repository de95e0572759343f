-- The first item of a list that passes a test, with what stands before and behind it.
use Rattle.std.proofs.Common.{◌≡◌, ℕ, suc, ◌+◌, ◌<◌, ◌≤◌, List, [], ◌∷◌, ◌++◌, length, Bool, true, false, cond, refl}
use Rattle.std.proofs.Common.{ap, sym, ◌∙◌, subst, arith}
use Rattle.std.specs.Prelude.{Option, None, Some, nat_lt, not, position, remove, slice_get, slice_set}
use Rattle.std.specs.List.{prefix_len}
use Rattle.std.proofs.Math.Numerals.{one-add}
use Rattle.std.proofs.lemmas.Bool.Decides.{nat_tests}
use Rattle.run_theory.specs.Counts.{one_if, tally}
use Rattle.run_theory.proofs.Tally.{tally_between}

-- at this place of a list an item passes a test
pub record IsFocus {A : Type 0} (p : A → Bool) (xs : List A) (at : ℕ) : Type 0 where
  pub item : A
  pub front : List A
  pub back : List A
  pub is : xs ≡ front ++ item ∷ back
  pub passes : p item ≡ true
  pub get : slice_get xs at ≡ Some item
  pub set : (other : A) → slice_set xs at other ≡ front ++ other ∷ back
  pub removed : remove xs at ≡ front ++ back

behind : {A : Type 0} (p : A → Bool) (x : A) (xs : List A) (at : ℕ) → IsFocus p xs at → IsFocus p (x ∷ xs) (suc at)
behind p x xs at f = record {
  item = f.item;
  front = x ∷ f.front;
  back = f.back;
  is = ap (λ ys. x ∷ ys) f.is;
  passes = f.passes;
  get = f.get;
  set = λ other. ap (λ ys. x ∷ ys) (f.set other);
  removed = ap (λ ys. x ∷ ys) f.removed;
}

pub found : {A : Type 0} (p : A → Bool) (xs : List A) → prefix_len (λ x. not (p x)) xs < length xs
    → IsFocus p xs (prefix_len (λ x. not (p x)) xs)
found p [] low = absurd (omega (arith, low))
found {A} p (x ∷ xs) low = go (p x) refl low (found p xs)
  where
    go : (b : Bool) → p x ≡ b → cond (not b) (1 + prefix_len (λ y. not (p y)) xs) 0 < suc (length xs)
        → (prefix_len (λ y. not (p y)) xs < length xs → IsFocus p xs (prefix_len (λ y. not (p y)) xs))
        → IsFocus p (x ∷ xs) (cond (not b) (1 + prefix_len (λ y. not (p y)) xs) 0)
    go true e low rest = record {
      item = x;
      front = [];
      back = xs;
      is = refl;
      passes = e;
      get = refl;
      set = λ other.
          refl;
      removed = refl;
    }
    go false e low rest =
        subst (λ k. IsFocus p (x ∷ xs) k) (sym (one-add (prefix_len (λ y. not (p y)) xs)))
        (behind p x xs (prefix_len (λ y. not (p y)) xs) (rest (omega (arith, low))))

-- none passes where the first place is past the end
pub absent : {A : Type 0} (p : A → Bool) (xs : List A) → length xs ≤ prefix_len (λ x. not (p x)) xs → tally p xs ≡ 0
absent p [] past = refl
absent p (x ∷ xs) past = go (p x) past (absent p xs)
  where
    go : (b : Bool) → suc (length xs) ≤ cond (not b) (1 + prefix_len (λ y. not (p y)) xs) 0
        → (length xs ≤ prefix_len (λ y. not (p y)) xs → tally p xs ≡ 0) → cond b 1 0 + tally p xs ≡ 0
    go true past rest = absurd (omega (arith, past))
    go false past rest =
        let none : tally p xs ≡ 0 = rest (omega (arith, past)) in
        omega (arith, none)

-- where no place is found none passes
pub none_placed : {A : Type 0} (p : A → Bool) (xs : List A) → position p xs ≡ None → tally p xs ≡ 0
none_placed p xs none = go (nat_lt (prefix_len (λ x. not (p x)) xs) (length xs)) refl none
  where
    go : (b : Bool) → nat_lt (prefix_len (λ x. not (p x)) xs) (length xs) ≡ b
        → cond b (Some (prefix_len (λ x. not (p x)) xs)) None ≡ None → tally p xs ≡ 0
    go true e none = cc
    go false e none = absent p xs (grind (arith, nat_tests, e))

-- the item at the first place that passes, with what stands before and behind it
pub record IsTakenAt {A : Type 0} (p : A → Bool) (xs : List A) (at : ℕ) (x : A) : Type 0 where
  pub front : List A
  pub back : List A
  pub is : xs ≡ front ++ x ∷ back
  pub passes : p x ≡ true
  pub removed : remove xs at ≡ front ++ back

pub taken_at : {A : Type 0} (p : A → Bool) (xs : List A) (at : ℕ) (x : A) → position p xs ≡ Some at
    → slice_get xs at ≡ Some x
    → IsTakenAt p xs at x
taken_at {A} p xs at x there here = by (nat_lt place (length xs)) refl there
  where
    place : ℕ
    place = prefix_len (λ y. not (p y)) xs

    of_focus : place ≡ at → (f : IsFocus p xs place) → IsTakenAt p xs at x
    of_focus same f =
        let both : Some f.item ≡ Some x = sym f.get ∙ (ap (slice_get xs) same ∙ here) in
        let item : f.item ≡ x = cc in
        subst (λ k. IsTakenAt p xs k x) same
        (subst (λ y. IsTakenAt p xs place y) item
        (record { front = f.front; back = f.back; is = f.is; passes = f.passes; removed = f.removed }))

    by : (b : Bool) → nat_lt place (length xs) ≡ b → cond {A = Option ℕ} b (Some place) None ≡ Some at
        → IsTakenAt p xs at x
    by true e found_at =
        let same : place ≡ at = cc in
        of_focus same (found p xs (grind (arith, nat_tests, e)))
    by false e found_at = absurd cc

-- without it one fewer is counted, if it was
pub tally_taken : {A : Type 0} (p q : A → Bool) (xs : List A) (at : ℕ) (x : A) → IsTakenAt p xs at x
    → tally q xs ≡ tally q (remove xs at) + one_if (q x)
tally_taken p q xs at x t = omega (arith, tally_between q t.front x t.back xs t.is, ap (tally q) t.removed)
