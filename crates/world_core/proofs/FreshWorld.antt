-- Lists of a thing for each host.
use Rattle.std.proofs.Common.{◌≡◌, ◌⊎◌, inl, inr, ℕ, zero, suc, ◌+◌, ◌-◌, ◌<◌, ◌≤◌, [], ◌∷◌, ◌++◌, length, refl, ap}
use Rattle.std.proofs.Common.{◌∙◌, subst, arith}
use Rattle.std.specs.Prelude.{slice_index_or}
use Rattle.std.proofs.lemmas.Bool.{cases_lt}
use Rattle.std.proofs.lemmas.List.{get_or-append_right, get_or_append_left, length-append}
use Rattle.world_core.specs.World.{for_each}

pub each_length : {A : Type 0} (n : ℕ) (thing : ℕ → A) → length (for_each n thing) ≡ n
each_length zero thing = refl
each_length (suc n) thing =
    length-append (for_each n thing) (thing n ∷ []) ∙ (let before = each_length n thing in omega (arith, before))

pub each_at : {A : Type 0} (n : ℕ) (thing : ℕ → A) (h : ℕ) (d : A) → h < n
    → slice_index_or (for_each n thing) h d ≡ thing h
each_at zero thing h d low = absurd (omega (arith, low))
each_at {A = A} (suc n) thing h d low = go (each_at n thing h d) (cases_lt h n)
  where
    first_of : (x : A) → slice_index_or (x ∷ []) (n - n) d ≡ x
    first_of x = let none : n - n ≡ 0 = omega arith in ap (λ k. slice_index_or (x ∷ []) k d) none

    go : (h < n → slice_index_or (for_each n thing) h d ≡ thing h) → (h < n) ⊎ (n ≤ h)
        → slice_index_or (for_each n thing ++ thing n ∷ []) h d ≡ thing h
    go before (inl below) = get_or_append_left (for_each n thing) (thing n ∷ []) d h
        (omega (arith, below, each_length n thing)) ∙ before below
    go before (inr last) =
        let at : n ≡ h = omega (arith, last, low) in
        subst (λ k. slice_index_or (for_each n thing ++ thing n ∷ []) k d ≡ thing k) at
        (get_or-append_right (for_each n thing) (thing n ∷ []) n n d (each_length n thing) (omega arith)
        ∙ first_of (thing n))

pub each_more : {A : Type 0} (n : ℕ) (thing : ℕ → A) → for_each (n + 1) thing ≡ for_each n thing ++ thing n ∷ []
each_more n thing = let next : n + 1 ≡ suc n = omega arith in ap (λ k. for_each k thing) next
