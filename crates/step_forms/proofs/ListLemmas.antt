-- What is so of each entry of a list is so of what is made of each.
use Rattle.std.proofs.Common.{List, [], ◌∷◌, map, refl, inl, inr}
use Rattle.std.specs.List.{flat_map}
use Rattle.run_theory.specs.Lists.{Each, IsIn}
use Rattle.run_theory.proofs.Pasts.{each_append, each_from, each_in}

pub mapped_in : {A B : Type 0} (P : B → Type 0) (f : A → B) (xs : List A) → ((x : A) → IsIn x xs → P (f x))
    → Each P (map f xs)
mapped_in P f [] all = tt
mapped_in P f (x ∷ xs) all = (all x (inl refl), mapped_in P f xs (λ y there. all y (inr there)))

pub flat_in : {A B : Type 0} (P : B → Type 0) (f : A → List B) (xs : List A) → ((x : A) → IsIn x xs → Each P (f x))
    → Each P (flat_map f xs)
flat_in P f [] all = tt
flat_in P f (x ∷ xs) all =
    each_append P (f x) (flat_map f xs) (all x (inl refl)) (flat_in P f xs (λ y there. all y (inr there)))
