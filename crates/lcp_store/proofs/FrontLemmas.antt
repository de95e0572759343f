-- What stands in front of lists.
use Rattle.std.proofs.Common.{◌≡◌, ◌≤◌, ℕ, List, ◌++◌, length, take, ap, sym, ◌∙◌, refl, arith}
use Rattle.std.specs.Prelude.{Result, Ok, Err, OnErr}
use Rattle.std.proofs.lemmas.List.{take-take, take_at, length-append}

-- what is in front of a list that is in front is in front
pub front_of_front : (a b m ys : List ℕ) → m ≡ a ++ b → take (length m) ys ≡ m → take (length a) ys ≡ a
front_of_front a b m ys is front =
    let shorter : length a ≤ length m = rw (is, length-append a b) (omega arith) in
    sym (take-take (length a) (length m) ys shorter) ∙ ap (take (length a)) (front ∙ is) ∙ take_at a b (length a) refl

pub kept : {X E : Type 0} (r : Result X E) (a b m ys : List ℕ) → m ≡ a ++ b → OnErr r (take (length m) ys ≡ m)
    → OnErr r (take (length a) ys ≡ a)
kept (Ok done) a b m ys is front = tt
kept (Err fault) a b m ys is front = front_of_front a b m ys is front

pub ruleset fronts = (front_of_front, kept)
