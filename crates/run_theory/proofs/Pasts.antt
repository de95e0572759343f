-- Older parts of a list, and what holds of each entry.
use Rattle.std.proofs.Common.{◌≡◌, ◌⊎◌, Bool, true, false, cond, List, [], ◌∷◌, ◌++◌, refl, sym, ap, ◌∙◌, subst, inl}
use Rattle.std.proofs.Common.{inr, append_assoc, ◌≤◌, length, Option, None, filter, filter_map, arith, length-append}
use Rattle.std.proofs.lemmas.List.Elements.{filter_map-append}
use Rattle.run_theory.specs.Lists.{Each, IsIn, HasEntry, IsPast}

pub past_self : {A : Type 0} (xs : List A) → IsPast xs xs
past_self xs = record { newer = []; is = refl }

pub past_nil : {A : Type 0} (xs : List A) → IsPast [] xs
past_nil [] = record { newer = []; is = refl }
past_nil (x ∷ xs) = record { newer = x ∷ (past_nil xs).newer; is = ap (λ ys. x ∷ ys) (past_nil xs).is }

-- one more entry in front of the whole
pub past_more : {A : Type 0} {xs ys : List A} (y : A) → IsPast xs ys → IsPast xs (y ∷ ys)
past_more y p = record { newer = y ∷ p.newer; is = ap (λ zs. y ∷ zs) p.is }

-- one entry less of the part
pub past_less : {A : Type 0} {xs ys : List A} (x : A) → IsPast (x ∷ xs) ys → IsPast xs ys
past_less {A} {xs} x p = record { newer = p.newer ++ x ∷ []; is = p.is ∙ sym (append_assoc p.newer (x ∷ []) xs) }

-- no older part is longer
pub past_short : {A : Type 0} {xs ys : List A} → IsPast xs ys → length xs ≤ length ys
past_short {A} {xs} p = omega (arith, ap length p.is, length-append p.newer xs)

pub past_trans : {A : Type 0} {xs ys zs : List A} → IsPast xs ys → IsPast ys zs → IsPast xs zs
past_trans {A} {xs} p q = record {
  newer = q.newer ++ p.newer;
  is = q.is ∙ (ap (λ w. q.newer ++ w) p.is ∙ sym (append_assoc q.newer p.newer xs));
}

-- a part that begins with an entry: it is the whole, or a part of what is below the newest entry
pub past_cases : {A : Type 0} {xs ys : List A} (y : A) → IsPast xs (y ∷ ys) → (y ∷ ys ≡ xs) ⊎ IsPast xs ys
past_cases {A} {xs} {ys} y p = go p.newer p.is
  where
    go : (newer : List A) → y ∷ ys ≡ newer ++ xs → (y ∷ ys ≡ xs) ⊎ IsPast xs ys
    go [] e = inl e
    go (n ∷ newer) e = inr (record { newer = newer; is = cc })

pub each_map : {A : Type 0} (P Q : A → Type 0) (xs : List A) → ((x : A) → P x → Q x) → Each P xs → Each Q xs
each_map P Q [] f h = tt
each_map P Q (x ∷ xs) f h = (f x h.0, each_map P Q xs f h.1)

pub each_append : {A : Type 0} (P : A → Type 0) (xs ys : List A) → Each P xs → Each P ys → Each P (xs ++ ys)
each_append P [] ys h k = k
each_append P (x ∷ xs) ys h k = (h.0, each_append P xs ys h.1 k)

pub each_before : {A : Type 0} (P : A → Type 0) (xs ys : List A) → Each P (xs ++ ys) → Each P xs
each_before P [] ys h = tt
each_before P (x ∷ xs) ys h = (h.0, each_before P xs ys h.1)

pub each_after : {A : Type 0} (P : A → Type 0) (xs ys : List A) → Each P (xs ++ ys) → Each P ys
each_after P [] ys h = h
each_after P (x ∷ xs) ys h = each_after P xs ys h.1

pub each_past : {A : Type 0} (P : A → Type 0) {xs ys : List A} → IsPast xs ys → Each P ys → Each P xs
each_past P {xs} {ys} p h = each_after P p.newer xs (subst (Each P) p.is h)

pub each_filter : {A : Type 0} (P : A → Type 0) (p : A → Bool) (xs : List A) → Each P xs → Each P (filter p xs)
each_filter P p [] all = tt
each_filter {A} P p (x ∷ xs) all = go (p x) (each_filter P p xs all.1)
  where
    go : (b : Bool) → Each P (filter p xs) → Each P (cond b (x ∷ filter p xs) (filter p xs))
    go true rest = (all.0, rest)
    go false rest = rest

pub each_in : {A : Type 0} (P : A → Type 0) (x : A) (xs : List A) → Each P xs → IsIn x xs → P x
each_in P x [] h i = absurd i
each_in P x (y ∷ ys) h (inl e) = subst P (sym e) h.0
each_in P x (y ∷ ys) h (inr i) = each_in P x ys h.1 i

-- what holds wherever an entry lies holds of each
pub each_from : {A : Type 0} (P : A → Type 0) (xs : List A) → ((x : A) → IsIn x xs → P x) → Each P xs
each_from P [] f = tt
each_from P (x ∷ xs) f = (f x (inl refl), each_from P xs (λ y i. f y (inr i)))

pub in_append : {A : Type 0} (x : A) (newer xs : List A) → IsIn x xs → IsIn x (newer ++ xs)
in_append x [] xs i = i
in_append x (n ∷ newer) xs i = inr (in_append x newer xs i)

pub in_past : {A : Type 0} (x : A) {xs ys : List A} → IsPast xs ys → IsIn x xs → IsIn x ys
in_past x {xs} p i = subst (IsIn x) (sym p.is) (in_append x p.newer xs i)

pub entry_past : {A : Type 0} {xs ys : List A} → IsPast xs ys → HasEntry xs → HasEntry ys
entry_past {A} {xs} p h = subst HasEntry (sym p.is) (go p.newer)
  where
    go : (newer : List A) → HasEntry (newer ++ xs)
    go [] = h
    go (n ∷ newer) = tt

-- an older part as long as the whole is the whole
pub past_whole : {A : Type 0} (xs ys : List A) → IsPast xs ys → length ys ≤ length xs → xs ≡ ys
past_whole {A} xs ys p le = go p.newer p.is
  where
    go : (newer : List A) → ys ≡ newer ++ xs → xs ≡ ys
    go [] is = sym is
    go (n ∷ newer) is = absurd (omega (arith, le, ap length is, length-append newer xs))

-- what is read off an older part is an older part of what is read off the whole
pub past_map : {A B : Type 0} (f : A → Option B) (xs ys : List A) → IsPast xs ys
    → IsPast (filter_map f xs) (filter_map f ys)
past_map f xs ys p = record {
  newer = filter_map f p.newer;
  is = ap (filter_map f) p.is ∙ filter_map-append f p.newer xs;
}

pub filter_map_none : {A B : Type 0} (f : A → Option B) (x : A) (xs : List A) → f x ≡ None
    → filter_map f (x ∷ xs) ≡ filter_map f xs
filter_map_none f x xs is = rw is refl
