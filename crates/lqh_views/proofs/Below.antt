-- Lists of which no entry from a place on passes a test.
use Rattle.std.proofs.Common.{◌≡◌, ◌⊎◌, inl, inr, ◌∙◌, ◌++◌, ℕ, zero, suc, Bool, true, false, cond, List, [], ◌∷◌}
use Rattle.std.proofs.Common.{length, refl, ap, sym}
use Rattle.std.proofs.lemmas.Bool.{true≢false}
use Rattle.std.specs.Prelude.{◌||◌, Option, None, Some, filter, position, remove, slice_get, slice_set}
use Rattle.std.specs.List.{list_any}
use Rattle.sig_core.proofs.Firsts.{place_by, position-cons}
use Rattle.lqh_views.specs.Report.{found_at, found_if, last_before}

-- no entry from this place on passes
abbrev pub NoneFrom : {X : Type 0} → (X → Bool) → List X → ℕ → Type 0
NoneFrom p [] n = Unit {0}
NoneFrom p (x ∷ xs) zero = (p x ≡ false) × NoneFrom p xs zero
NoneFrom p (x ∷ xs) (suc n) = NoneFrom p xs n

pub none_past : {X : Type 0} (p : X → Bool) (xs : List X) → NoneFrom p xs (length xs)
none_past p [] = tt
none_past p (x ∷ xs) = none_past p xs

pub later : {X : Type 0} (p : X → Bool) (xs : List X) (n : ℕ) → NoneFrom p xs n → NoneFrom p xs (suc n)
later p [] n none = tt
later p (x ∷ xs) zero none = none.1
later p (x ∷ xs) (suc n) none = later p xs n none

-- so it is of what a list comes to be: an entry is taken out, changed, set behind the others, or some are left out
pub none_removed : {X : Type 0} (p : X → Bool) (xs : List X) (at n : ℕ) → NoneFrom p xs n → NoneFrom p (remove xs at) n
none_removed p [] zero n none = tt
none_removed p [] (suc at) n none = tt
none_removed p (x ∷ xs) zero zero none = none.1
none_removed p (x ∷ xs) zero (suc n) none = later p xs n none
none_removed p (x ∷ xs) (suc at) zero none = (none.0, none_removed p xs at zero none.1)
none_removed p (x ∷ xs) (suc at) (suc n) none = none_removed p xs at n none

pub none_changed : {X : Type 0} (p : X → Bool) (xs : List X) (at n : ℕ) (old new : X) → slice_get xs at ≡ Some old
    → p new ≡ p old → NoneFrom p xs n → NoneFrom p (slice_set xs at new) n
none_changed p [] zero n old new there same none = tt
none_changed p [] (suc at) n old new there same none = tt
none_changed p (x ∷ xs) zero zero old new there same none =
    let own : x ≡ old = cc in
    (same ∙ (sym (ap p own) ∙ none.0), none.1)
none_changed p (x ∷ xs) zero (suc n) old new there same none = none
none_changed p (x ∷ xs) (suc at) zero old new there same none =
    (none.0, none_changed p xs at zero old new there same none.1)
none_changed p (x ∷ xs) (suc at) (suc n) old new there same none = none_changed p xs at n old new there same none

pub none_unchanged : {X : Type 0} (p : X → Bool) (xs : List X) (at n : ℕ) (new : X) → slice_get xs at ≡ None
    → NoneFrom p xs n → NoneFrom p (slice_set xs at new) n
none_unchanged p [] zero n new there none = tt
none_unchanged p [] (suc at) n new there none = tt
none_unchanged p (x ∷ xs) zero n new there none = absurd cc
none_unchanged p (x ∷ xs) (suc at) zero new there none = (none.0, none_unchanged p xs at zero new there none.1)
none_unchanged p (x ∷ xs) (suc at) (suc n) new there none = none_unchanged p xs at n new there none

pub none_behind : {X : Type 0} (p : X → Bool) (xs : List X) (n : ℕ) (new : X) → p new ≡ false → NoneFrom p xs n
    → NoneFrom p (xs ++ new ∷ []) n
none_behind p [] zero new is none = (is, tt)
none_behind p [] (suc n) new is none = tt
none_behind p (x ∷ xs) zero new is none = (none.0, none_behind p xs zero new is none.1)
none_behind p (x ∷ xs) (suc n) new is none = none_behind p xs n new is none

pub none_kept : {X : Type 0} (p q : X → Bool) (xs : List X) (n : ℕ) → NoneFrom p xs n → NoneFrom p (filter q xs) n
none_kept p q [] n none = tt
none_kept p q (x ∷ xs) zero none = by (q x) (none_kept p q xs zero none.1)
  where
    by : (b : Bool) → NoneFrom p (filter q xs) zero → NoneFrom p (cond b (x ∷ filter q xs) (filter q xs)) zero
    by true rest = (none.0, rest)
    by false rest = rest
none_kept p q (x ∷ xs) (suc n) none = by (q x) (none_kept p q xs n none)
  where
    by : (b : Bool) → NoneFrom p (filter q xs) n → NoneFrom p (cond b (x ∷ filter q xs) (filter q xs)) (suc n)
    by true rest = rest
    by false rest = later p (filter q xs) n rest

-- none passes at all
or_false : (a b : Bool) → a ≡ false → b ≡ false → (a || b) ≡ false
or_false true b one other = one
or_false false b one other = other

pub none_any : {X : Type 0} (p : X → Bool) (xs : List X) → NoneFrom p xs zero → list_any p xs ≡ false
none_any p [] none = refl
none_any p (x ∷ xs) none = or_false (p x) (list_any p xs) none.0 (none_any p xs none.1)

pub no_place : {X : Type 0} (p : X → Bool) (xs : List X) → position p xs ≡ None → list_any p xs ≡ false
no_place p [] none = refl
no_place p (x ∷ xs) none = by (p x) refl (position p xs) refl (sym (position-cons p x xs) ∙ none) (no_place p xs)
  where
    by : (b : Bool) → p x ≡ b → (at : Option ℕ) → position p xs ≡ at → place_by b at ≡ None
        → (position p xs ≡ None → list_any p xs ≡ false) → list_any p (x ∷ xs) ≡ false
    by true is at there none rest = absurd cc
    by false is None there none rest = or_false (p x) (list_any p xs) is (rest there)
    by false is (Some at) there none rest = absurd cc

-- one place further down
none_down : {X : Type 0} (p : X → Bool) (xs : List X) (n : ℕ) → slice_get xs n ≡ None → NoneFrom p xs (suc n)
    → NoneFrom p xs n
none_down p [] n there none = tt
none_down p (x ∷ xs) zero there none = absurd cc
none_down p (x ∷ xs) (suc n) there none = none_down p xs n there none

one_down : {X : Type 0} (p : X → Bool) (xs : List X) (n : ℕ) (one : X) → slice_get xs n ≡ Some one → p one ≡ false
    → NoneFrom p xs (suc n) → NoneFrom p xs n
one_down p [] zero one there is none = tt
one_down p [] (suc n) one there is none = tt
one_down p (x ∷ xs) zero one there is none =
    let own : x ≡ one = cc in
    (ap p own ∙ is, none)
one_down p (x ∷ xs) (suc n) one there is none = one_down p xs n one there is none

-- what the last entry before a place that passes a wider test leaves: it passes this one, or none from it on does
abbrev pub Leaves : {X : Type 0} → (X → Bool) → List X → Option (ℕ × X) → Type 0
Leaves p xs None = NoneFrom p xs zero
Leaves p xs (Some found) = (p found.1 ≡ true) ⊎ NoneFrom p xs found.0

pub last_leaves : {X : Type 0} (p wider : X → Bool) → ((x : X) → p x ≡ true → wider x ≡ true) → (xs : List X) (n : ℕ)
    → NoneFrom p xs n → Leaves p xs (last_before wider xs n)
last_leaves p wider within xs zero none = none
last_leaves {X} p wider within xs (suc n) none = by (last_leaves p wider within xs n) (slice_get xs n) refl
  where
    Rest : Type 0
    Rest = NoneFrom p xs n → Leaves p xs (last_before wider xs n)

    found : (x : X) → slice_get xs n ≡ Some x → (own : Bool) → p x ≡ own → Leaves p xs (Some (n, x))
    found x there true is = inl is
    found x there false is = inr (one_down p xs n x there is none)

    other : (x : X) → wider x ≡ false → (own : Bool) → p x ≡ own → p x ≡ false
    other x out true is = absurd (true≢false (sym (within x is) ∙ out))
    other x out false is = is

    by_if : Rest → (x : X) → slice_get xs n ≡ Some x → (b : Bool) → wider x ≡ b
        → Leaves p xs (found_if n x (last_before wider xs n) b)
    by_if rest x there true is = found x there (p x) refl
    by_if rest x there false is = rest (one_down p xs n x there (other x is (p x) refl) none)

    by : Rest → (o : Option X) → slice_get xs n ≡ o → Leaves p xs (found_at wider n (last_before wider xs n) o)
    by rest None there = rest (none_down p xs n there none)
    by rest (Some x) there = by_if rest x there (wider x) refl
