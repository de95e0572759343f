-- Short lists that are kept in an array: the array is filled up, so that equal lists are equal arrays.
use Rattle.std.specs.Prelude.{◌≡◌, ℕ, ◌-◌, ◌≤◌, ◌++◌, List, length, take, drop, replicate}
use Rattle.std.proofs.Common.{arith}
use Rattle.std.proofs.lemmas.List.{length-take-le, take-append-drop}

-- the array has this room, and beyond its first len items it holds nothing but the filler
pub record IsFilled {X : Type 0} (filler : X) (room : ℕ) (items : List X) (len : ℕ) : Type 0 where
  pub fits : len ≤ room
  pub whole : length items ≡ room
  pub rest : drop len items ≡ replicate (room - len) filler

-- a list, and the filler up to the room
abbrev pub filled : {X : Type 0} → X → ℕ → List X → List X
filled filler room items = items ++ replicate (room - length items) filler

-- a filled array holds as many items as it says
pub length-held : {X : Type 0} {filler : X} {room : ℕ} {items : List X} {len : ℕ} → IsFilled filler room items len
    → length (take len items) ≡ len
length-held {items = items} {len = len} is = length-take-le len items (omega (arith, is.fits, is.whole))

-- the items that it holds, filled up, are the array
pub filled-held : {X : Type 0} {filler : X} {room : ℕ} {items : List X} {len : ℕ} → IsFilled filler room items len
    → filled filler room (take len items) ≡ items
filled-held {filler = filler} {room = room} {items = items} {len = len} is =
    rw (length-held is, ← is.rest) (take-append-drop len items)
