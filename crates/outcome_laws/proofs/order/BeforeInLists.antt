-- Lists in which one thing stands before another.
use Rattle.std.proofs.Common.{◌≡◌, ◌∙◌, ◌++◌, Bool, true, false, filter, cond, List, [], ◌∷◌, append_assoc, refl}
use Rattle.std.proofs.Common.{sym, ap, inl, inr}
use Rattle.std.proofs.lemmas.List.Elements.{filter-append}
use Rattle.run_theory.specs.Lists.{IsIn}
use Rattle.sig_core.specs.declared.entry.Entry.{Entry}
use Rattle.world_core.specs.Strict.{StandsBefore}

-- the list up to something in it, and behind that
pub record IsSplitAt {A : Type 0} (x : A) (list : List A) : Type 0 where
  pub front : List A
  pub back : List A
  pub is : list ≡ front ++ x ∷ back

pub split_at : {A : Type 0} (x : A) (xs : List A) → IsIn x xs → IsSplitAt x xs
split_at x [] there = absurd there
split_at x (y ∷ xs) (inl same) = record { front = []; back = xs; is = ap (λ z. z ∷ xs) (sym same) }
split_at x (y ∷ xs) (inr there) =
    let rest = split_at x xs there in
    record { front = y ∷ rest.front; back = rest.back; is = ap (λ zs. y ∷ zs) rest.is }

-- what is in the front stands before what is in the back
pub stands_by : (a b : Entry) (xs ys : List Entry) → IsIn a xs → IsIn b ys → StandsBefore a b (xs ++ ys)
stands_by a b xs ys there_a there_b =
    let one = split_at a xs there_a in
    let other = split_at b ys there_b in
    record {
      front = one.front;
      between = one.back ++ other.front;
      back = other.back;
      is = ap (λ zs. zs ++ ys) one.is
          ∙ ap (λ zs. (one.front ++ a ∷ one.back) ++ zs) other.is
          ∙ sym (append_assoc (one.front ++ a ∷ one.back) other.front (b ∷ other.back))
          ∙ ap (λ zs. zs ++ b ∷ other.back) (append_assoc one.front (a ∷ one.back) other.front);
    }

-- also among those that pass a test
pub record IsKept {A : Type 0} (p : A → Bool) (x : A) (xs : List A) : Type 0 where
  pub there : IsIn x xs
  pub passes : p x ≡ true

pub kept_in : {A : Type 0} (p : A → Bool) (x : A) (xs : List A) → IsIn x (filter p xs) → IsKept p x xs
kept_in p x [] there = absurd there
kept_in {A} p x (y ∷ xs) there = by (p y) refl (kept_in p x xs) there
  where
    more : IsKept p x xs → IsKept p x (y ∷ xs)
    more kept = record { there = inr kept.there; passes = kept.passes }

    by : (b : Bool) → p y ≡ b → (IsIn x (filter p xs) → IsKept p x xs)
        → IsIn x (cond b (y ∷ filter p xs) (filter p xs)) → IsKept p x (y ∷ xs)
    by true is rest (inl same) = record { there = inl same; passes = ap p same ∙ is }
    by true is rest (inr there) = more (rest there)
    by false is rest there = more (rest there)

passing : {A : Type 0} (p : A → Bool) (x : A) (xs : List A) → p x ≡ true → filter p (x ∷ xs) ≡ x ∷ filter p xs
passing p x xs passes = ap (λ b. cond b (x ∷ filter p xs) (filter p xs)) passes

pub stands_kept : (p : Entry → Bool) (a b : Entry) (list : List Entry) → p a ≡ true → p b ≡ true → StandsBefore a b list
    → StandsBefore a b (filter p list)
stands_kept p a b list passes_a passes_b stands = record {
  front = filter p stands.front;
  between = filter p stands.between;
  back = filter p stands.back;
  is = ap (filter p) stands.is
      ∙ filter-append p (stands.front ++ a ∷ stands.between) (b ∷ stands.back)
      ∙ ap (λ zs. zs ++ filter p (b ∷ stands.back))
      (filter-append p stands.front (a ∷ stands.between)
      ∙ ap (λ zs. filter p stands.front ++ zs) (passing p a stands.between passes_a))
      ∙ ap (λ zs. (filter p stands.front ++ a ∷ filter p stands.between) ++ zs) (passing p b stands.back passes_b);
}
