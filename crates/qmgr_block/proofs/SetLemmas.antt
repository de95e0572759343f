-- Lists of members that are made member by member.
use Rattle.std.proofs.Common.{◌≡◌, ◌≤◌, ℕ, zero, suc, List, [], ◌∷◌, ◌++◌, take, length, refl, ap, ◌∙◌, append_assoc}
use Rattle.std.proofs.Common.{arith}
use Rattle.std.proofs.lemmas.List.{append-nil, length-take, take_all, take-append-le}

pub ruleset filters = (append_assoc, append-nil)

-- of what is kept of a list, and of the list, the same is kept with more behind it
pub take_take_append : {X : Type 0} (n : ℕ) (xs ys : List X) → take n (take n xs ++ ys) ≡ take n (xs ++ ys)
take_take_append zero xs ys = refl
take_take_append (suc n) [] ys = refl
take_take_append (suc n) (x ∷ xs) ys = ap (λ zs. x ∷ zs) (take_take_append n xs ys)

-- one more item that is kept moves from what is left to what is there
pub take_add : {X : Type 0} (n : ℕ) (xs : List X) (x : X) (ys : List X)
    → take n (take n (xs ++ x ∷ []) ++ ys) ≡ take n (xs ++ x ∷ ys)
take_add n xs x ys = take_take_append n (xs ++ x ∷ []) ys ∙ ap (take n) (append_assoc xs (x ∷ []) ys)

-- what is kept is no more than that
pub take_few : {X : Type 0} (n : ℕ) (xs : List X) → length (take n xs) ≤ n
take_few n xs = omega (arith, length-take n xs)

-- where a list is full already, no more is kept
pub take_full : {X : Type 0} (n : ℕ) (xs ys : List X) → n ≤ length xs → length xs ≤ n → take n (xs ++ ys) ≡ xs
take_full n xs ys full few = take-append-le n xs ys full ∙ take_all n xs few

pub ruleset fronts = (take_take_append, take_add, take_few, take_full, take_all, append-nil)
