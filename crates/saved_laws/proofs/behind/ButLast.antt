-- What is so of each entry of a list but the last, and what of it is so of all that a link has but its newest signal.
use Rattle.std.proofs.Common.{◌≡◌, ◌⊎◌, inl, inr, ◌==◌, ℕ, List, [], ◌∷◌, ◌++◌, Bool, true, false, sym, subst}
use Rattle.std.proofs.Common.{if◌then◌else◌}
use Rattle.std.specs.Prelude.{drop}
use Rattle.run_theory.specs.Links.{put}
use Rattle.run_theory.specs.Lists.{Each}
use Rattle.run_theory.specs.Machine.{Machine}
use Rattle.run_theory.proofs.EachSent.{each_drop}

-- P holds of each entry but the last
abbrev pub EachButLast : {A : Type 0} → (A → Type 0) → List A → Type 0
EachButLast P [] = Unit {0}
EachButLast P (x ∷ more) = (P x ⊎ (more ≡ [])) × EachButLast P more

pub but_last_of_each : {A : Type 0} (P : A → Type 0) (xs : List A) → Each P xs → EachButLast P xs
but_last_of_each P [] all = tt
but_last_of_each P (x ∷ more) all = (inl all.0, but_last_of_each P more all.1)

pub but_last_map : {A : Type 0} (P Q : A → Type 0) (xs : List A) → ((x : A) → P x → Q x) → EachButLast P xs
    → EachButLast Q xs
but_last_map P Q [] f all = tt
but_last_map P Q (x ∷ more) f all = (first all.0, but_last_map P Q more f all.1)
  where
    first : P x ⊎ (more ≡ []) → Q x ⊎ (more ≡ [])
    first (inl is) = inl (f x is)
    first (inr none) = inr none

pub but_last_behind : {A : Type 0} (P : A → Type 0) (front rest : List A) → Each P front → EachButLast P rest
    → EachButLast P (front ++ rest)
but_last_behind P [] rest all but_last = but_last
but_last_behind P (x ∷ front) rest all but_last = (inl all.0, but_last_behind P front rest all.1 but_last)

module _ {E X : Type 0} (m : Machine E X) (P : X → Type 0) (j : ℕ) where
  maybe_each : (b : Bool) (x : X) (before : List X) → P x → Each P before → Each P (if b then x ∷ before else before)
  maybe_each true x before is all = (is, all)
  maybe_each false x before is all = all

  maybe_newest : (b : Bool) (x : X) (before : List X) → Each P before
      → Each P (drop 1 (if b then x ∷ before else before))
  maybe_newest true x before all = all
  maybe_newest false x before all = each_drop P 1 before all

  -- where all but the last of what is put on a link is so, and what was there before, all but the newest is
  pub put_but_newest : (xs before : List X) → EachButLast P xs → Each P before → Each P (drop 1 (put m j xs before))
  put_but_newest [] before but_last all = each_drop P 1 before all
  put_but_newest (x ∷ more) before but_last all =
      by but_last.0 (λ now. put_but_newest more (if m.to x == j then x ∷ before else before) but_last.1 now)
    where
      by : P x ⊎ (more ≡ [])
          → (Each P (if m.to x == j then x ∷ before else before)
          → Each P (drop 1 (put m j more (if m.to x == j then x ∷ before else before))))
          → Each P (drop 1 (put m j (x ∷ more) before))
      by (inl is) rest = rest (maybe_each (m.to x == j) x before is all)
      by (inr none) rest =
          subst (λ xs. Each P (drop 1 (put m j xs (if m.to x == j then x ∷ before else before)))) (sym none)
          (maybe_newest (m.to x == j) x before all)
