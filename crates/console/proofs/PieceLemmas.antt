-- What is handed on of some bytes at once.
use Rattle.std.proofs.Common.{◌≡◌, ℕ, ◌≤◌, List, length, take, ap, ◌∙◌}
use Rattle.std.proofs.lemmas.List.{take-take}

-- the first of a front are the first of the whole
pub front_of_front : (count : ℕ) (piece bytes : List ℕ) → count ≤ length piece → piece ≡ take (length piece) bytes
    → take count piece ≡ take count bytes
front_of_front count piece bytes within front = ap (take count) front ∙ take-take count (length piece) bytes within

pub ruleset handing = (front_of_front)
