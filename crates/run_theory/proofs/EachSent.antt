-- What holds of each item of a list, where items are taken, left out, changed or made into others.
use Rattle.std.proofs.Common.{◌≡◌, ℕ, zero, suc, List, [], ◌∷◌, take, drop, subst}
use Rattle.std.specs.Prelude.{map, remove, slice_get, slice_set, Some}
use Rattle.std.specs.List.{flat_map}
use Rattle.run_theory.specs.Lists.{Each}
use Rattle.run_theory.proofs.Pasts.{each_append}

pub each_take : {A : Type 0} (P : A → Type 0) (n : ℕ) (xs : List A) → Each P xs → Each P (take n xs)
each_take P zero xs all = tt
each_take P (suc n) [] all = tt
each_take P (suc n) (x ∷ xs) all = (all.0, each_take P n xs all.1)

pub each_drop : {A : Type 0} (P : A → Type 0) (n : ℕ) (xs : List A) → Each P xs → Each P (drop n xs)
each_drop P zero xs all = all
each_drop P (suc n) [] all = tt
each_drop P (suc n) (x ∷ xs) all = each_drop P n xs all.1

pub each_removed : {A : Type 0} (P : A → Type 0) (xs : List A) (at : ℕ) → Each P xs → Each P (remove xs at)
each_removed P xs at all =
    each_append P (take at xs) (drop (suc at) xs) (each_take P at xs all) (each_drop P (suc at) xs all)

pub each_get : {A : Type 0} (P : A → Type 0) (xs : List A) (at : ℕ) (x : A) → Each P xs → slice_get xs at ≡ Some x → P x
each_get P [] at x all is = absurd cc
each_get P (y ∷ xs) zero x all is = let one : y ≡ x = cc in subst P one all.0
each_get P (y ∷ xs) (suc at) x all is = each_get P xs at x all.1 is

pub each_set : {A : Type 0} (P : A → Type 0) (xs : List A) (at : ℕ) (x : A) → Each P xs → P x
    → Each P (slice_set xs at x)
each_set P [] at x all own = all
each_set P (y ∷ xs) zero x all own = (own, all.1)
each_set P (y ∷ xs) (suc at) x all own = (all.0, each_set P xs at x all.1 own)

pub each_mapped : {A B : Type 0} (P : B → Type 0) (f : A → B) (xs : List A) → ((x : A) → P (f x)) → Each P (map f xs)
each_mapped P f [] all = tt
each_mapped P f (x ∷ xs) all = (all x, each_mapped P f xs all)

pub each_flat : {A B : Type 0} (P : B → Type 0) (f : A → List B) (xs : List A) → ((x : A) → Each P (f x))
    → Each P (flat_map f xs)
each_flat P f [] all = tt
each_flat P f (x ∷ xs) all = each_append P (f x) (flat_map f xs) (all x) (each_flat P f xs all)
