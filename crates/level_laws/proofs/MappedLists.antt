-- What is found in a list whose items are changed in what the look-up doesn't look at.
use Rattle.std.proofs.Common.{◌≡◌, ◌∙◌, ℕ, zero, suc, ◌||◌, Bool, true, false, cond, List, [], ◌∷◌, ◌++◌, map, filter}
use Rattle.std.proofs.Common.{take, drop, refl, sym}
use Rattle.std.specs.Prelude.{position, remove, slice_get, slice_index_or, option_map}
use Rattle.std.specs.List.{list_any}
use Rattle.std.proofs.lemmas.List.{drop-map, map-append, take-map}
use Rattle.sig_core.proofs.Firsts.{place_by, position-cons}

module _ {X : Type 0} (f : X → X) where
  pub get-map : (xs : List X) (at : ℕ) → slice_get (map f xs) at ≡ option_map f (slice_get xs at)
  get-map [] at = refl
  get-map (x ∷ xs) zero = refl
  get-map (x ∷ xs) (suc at) = get-map xs at

  pub index-map : (other : X) → f other ≡ other → (xs : List X) (at : ℕ)
      → slice_index_or (map f xs) at other ≡ f (slice_index_or xs at other)
  index-map other kept [] at = sym kept
  index-map other kept (x ∷ xs) zero = refl
  index-map other kept (x ∷ xs) (suc at) = index-map other kept xs at

  pub remove-map : (xs : List X) (at : ℕ) → remove (map f xs) at ≡ map f (remove xs at)
  remove-map xs at = (λ i. take-map f at xs i ++ drop-map f (suc at) xs i)
      ∙ sym (map-append f (take at xs) (drop (suc at) xs))

  module _ (p : X → Bool) (same : (x : X) → p (f x) ≡ p x) where
    pub position-map : (xs : List X) → position p (map f xs) ≡ position p xs
    position-map [] = refl
    position-map (x ∷ xs) = position-cons p (f x) (map f xs) ∙ (λ i. place_by (same x i) (position-map xs i))
        ∙ sym (position-cons p x xs)

    pub any-map : (xs : List X) → list_any p (map f xs) ≡ list_any p xs
    any-map [] = refl
    any-map (x ∷ xs) = λ i. same x i || any-map xs i

    pub filter-map : (xs : List X) → filter p (map f xs) ≡ map f (filter p xs)
    filter-map [] = refl
    filter-map (x ∷ xs) = (λ i. cond (same x i) (f x ∷ filter-map xs i) (filter-map xs i)) ∙ by (p x)
      where
        by : (b : Bool) → cond b (f x ∷ map f (filter p xs)) (map f (filter p xs))
            ≡ map f (cond b (x ∷ filter p xs) (filter p xs))
        by true = refl
        by false = refl
