-- The first item of a list that passes a test.
use Rattle.std.specs.Prelude.{if◌then◌else◌, Bool, List, [], ◌∷◌, Option, None, Some}

-- that item
abbrev pub first : {X : Type 0} → (X → Bool) → List X → Option X
first p [] = None
first p (x ∷ xs) = if p x then Some x else first p xs

-- the list without it
abbrev pub drop_first : {X : Type 0} → (X → Bool) → List X → List X
drop_first p [] = []
drop_first p (x ∷ xs) = if p x then xs else x ∷ drop_first p xs
