-- The front of a list to which others are added.
use Rattle.std.proofs.Common.{◌≡◌, ◌≤◌, ℕ, zero, suc, List, [], ◌∷◌, ◌++◌, take, length, refl, ap, sym, ◌∙◌}
use Rattle.std.proofs.Common.{append_assoc, Bool, true, false, drop, get_or, ◌<◌, ◌+◌, arith}
use Rattle.std.specs.Prelude.{filter}
use Rattle.std.proofs.lemmas.List.{append-nil, drop_all, drop_more, length-take, take_all, take-append-le}

-- of what is kept of a list, and of the list, the same is kept with more behind it
pub take-take-append : {X : Type 0} (n : ℕ) (xs ys : List X) → take n (take n xs ++ ys) ≡ take n (xs ++ ys)
take-take-append zero xs ys = refl
take-take-append (suc n) [] ys = refl
take-take-append (suc n) (x ∷ xs) ys = ap (λ zs. x ∷ zs) (take-take-append n xs ys)

-- one more item that is kept moves from what is left to what is there
pub take-add : {X : Type 0} (n : ℕ) (xs : List X) (x : X) (ys : List X)
    → take n (take n (xs ++ x ∷ []) ++ ys) ≡ take n (xs ++ x ∷ ys)
take-add n xs x ys = take-take-append n (xs ++ x ∷ []) ys ∙ ap (take n) (append_assoc xs (x ∷ []) ys)

-- what is kept is no more than that
pub take-few : {X : Type 0} (n : ℕ) (xs : List X) → length (take n xs) ≤ n
take-few n xs = omega (arith, length-take n xs)

-- where a list is full already, no more is kept
pub take_full : {X : Type 0} (n : ℕ) (xs ys : List X) → n ≤ length xs → length xs ≤ n → take n (xs ++ ys) ≡ xs
take_full n xs ys full few = take-append-le n xs ys full ∙ take_all n xs few

-- of the items that pass the test one more moves from what is left to what is there
pub filter-passed : {X : Type 0} (p : X → Bool) (n : ℕ) (now next : List X) (items : List X) (at : ℕ) (d : X)
    → at < length items
    → p (get_or items at d) ≡ true → next ≡ take n (now ++ get_or items at d ∷ [])
    → take n (next ++ filter p (drop (at + 1) items)) ≡ take n (now ++ filter p (drop at items))
filter-passed p n now next items at d inside is next_is =
    rw (drop_more items at d inside, next_is)
    (rw is (take-add n now (get_or items at d) (filter p (drop (at + 1) items))))

-- one that doesn't pass is left out
pub filter-left : {X : Type 0} (p : X → Bool) (items : List X) (at : ℕ) (d : X) → at < length items
    → p (get_or items at d) ≡ false → filter p (drop (at + 1) items) ≡ filter p (drop at items)
filter-left p items at d inside is = rw (drop_more items at d inside) (rw is refl)

-- at the end of the items all are there
pub filter-over : {X : Type 0} (p : X → Bool) (n : ℕ) (now items : List X) (at : ℕ) → length items ≤ at → length now ≤ n
    → now ≡ take n (now ++ filter p (drop at items))
filter-over p n now items at past few = rw (drop_all at items past, append-nil now, take_all n now few) refl

pub ruleset lists = (take-take-append, take-add, take-few, take_full, take_all, append-nil)
