-- Lists of which each entry is made another, and entries of which each value is: it is all one whether that is done
-- before what else is done to them, or after it.
use Rattle.std.proofs.Common.{◌≡◌, ◌∙◌, ℕ, suc, zero, Bool, true, false, List, [], ◌∷◌, ◌++◌, refl, sym, ap, map}
use Rattle.std.proofs.Common.{if◌then◌else◌}
use Rattle.std.specs.List.{flat_map}
use Rattle.std.specs.Map.{values_of}
use Rattle.std.proofs.lemmas.List.{map-append}
use Rattle.indexmap.specs.IndexMap.{insert_entry, set_value_at}

-- where what each entry gives is made another, so is what all of them give
pub flat_level : {A B C : Type 0} (f : B → C) (given : A → List B) (anew : A → List C)
    → ((x : A) → anew x ≡ map f (given x))
    → (xs : List A) → flat_map anew xs ≡ map f (flat_map given xs)
flat_level f given anew same [] = refl
flat_level f given anew same (x ∷ xs) =
    ap (λ front. front ++ flat_map anew xs) (same x)
    ∙ (ap (λ rest. map f (given x) ++ rest) (flat_level f given anew same xs)
    ∙ sym (map-append f (given x) (flat_map given xs)))

-- where what is read off an entry stays as it is, so does what is read off all
pub mapped_level : {A B : Type 0} (f : B → B) (g : A → B) → ((x : A) → g x ≡ f (g x))
    → (xs : List A) → map g xs ≡ map f (map g xs)
mapped_level f g same [] = refl
mapped_level f g same (x ∷ xs) = ap (λ y. y ∷ map g xs) (same x) ∙ ap (λ ys. f (g x) ∷ ys) (mapped_level f g same xs)

-- entries, of which each keeps its key
module _ {K V : Type 0} (f : V → V) where
  abbrev pub valued : K × V → K × V
  valued e = (e.0, f e.1)

  pub values_level : (es : List (K × V)) → values_of (map valued es) ≡ map f (values_of es)
  values_level [] = refl
  values_level (e ∷ es) = ap (λ vs. f e.1 ∷ vs) (values_level es)

  pub set_level : (es : List (K × V)) (at : ℕ) (v : V)
      → set_value_at (map valued es) at (f v) ≡ map valued (set_value_at es at v)
  set_level [] at v = refl
  set_level (e ∷ es) zero v = refl
  set_level (e ∷ es) (suc at) v = ap (λ rest. valued e ∷ rest) (set_level es at v)

  pub insert_level : (eq : K → K → Bool) (es : List (K × V)) (k : K) (v : V)
      → insert_entry eq (map valued es) k (f v) ≡ map valued (insert_entry eq es k v)
  insert_level eq [] k v = refl
  insert_level eq (e ∷ es) k v = here (eq k e.0) (insert_level eq es k v)
    where
      here : (b : Bool) → insert_entry eq (map valued es) k (f v) ≡ map valued (insert_entry eq es k v)
          → (if b then (e.0, f v) ∷ map valued es else valued e ∷ insert_entry eq (map valued es) k (f v))
          ≡ map valued (if b then (e.0, v) ∷ es else e ∷ insert_entry eq es k v)
      here true behind = refl
      here false behind = ap (λ rest. valued e ∷ rest) behind
