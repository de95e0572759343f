-- What a read leaves.
use Rattle.std.proofs.Common.{◌≡◌, ℕ, ◌+◌, ◌≤◌, ◌<◌, List, [], ◌∷◌, ◌++◌, length, take, drop, refl, sym, arith}
use Rattle.std.proofs.lemmas.List.{drop-drop, take_at, take-append-drop, length-take-le}

-- the front of a list, put over the front of another, is the front of what that is then
pub copied_front : (xs buf : List ℕ) (n : ℕ) → n ≤ length xs → xs ≡ take n (take n xs ++ drop n buf) ++ drop n xs
copied_front xs buf n le =
    rw (take_at (take n xs) (drop n buf) n (length-take-le n xs le)) (sym (take-append-drop n xs))

-- a list of no items
pub none_of_length : (xs : List ℕ) → length xs ≡ 0 → xs ≡ []
none_of_length [] e = refl
none_of_length (x ∷ xs) e = absurd (omega arith)

pub ruleset copying = (copied_front, none_of_length)

pub ruleset reading = (drop-drop)
