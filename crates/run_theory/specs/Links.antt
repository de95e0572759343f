-- What a link carries, told from the logs at its two ends.
use Rattle.std.specs.Prelude.{◌≡◌, ◌⊎◌, ◌==◌, ℕ, Bool, true, not, ◌&&◌, List, [], ◌∷◌, if◌then◌else◌}
use Rattle.run_theory.specs.Lists.{IsPast}
use Rattle.run_theory.specs.Machine.{Machine}

module _ {E X : Type 0} (m : Machine E X) where
  -- what a step sends: nothing where its host stops with it
  abbrev pub sent_by : ℕ → List E → E → List X
  sent_by h log e = if m.stops e then [] else m.sends h log e

  -- each of the signals that is for host j in front of those before, so that the first lies deepest
  abbrev pub put : ℕ → List X → List X → List X
  put j [] before = before
  put j (x ∷ xs) before = put j xs (if m.to x == j then x ∷ before else before)

  -- all that host i, with this log, has sent to host j
  abbrev pub sent : ℕ → ℕ → List E → List X
  sent i j [] = []
  sent i j (e ∷ log) = put j (sent_by i log e) (sent i j log)

  -- the step took a signal that the link from host i gave
  abbrev pub is_from : ℕ → E → Bool
  is_from i e = not (m.asked e) && (m.from (m.signal e) == i)

  -- all that a host with this log has taken from its link from host i
  abbrev pub taken : ℕ → List E → List X
  taken i [] = []
  taken i (e ∷ log) = if is_from i e then m.signal e ∷ taken i log else taken i log

  -- Host i stopped with the step e after its log, and its link to host j gave an older part of what was sent and then
  -- the closing: what it had of the rest was lost.
  pub record Closes (i : ℕ) (log : List E) (e : E) (j : ℕ) (all xs : List X) : Type 0 where
    pub stops : m.stops e ≡ true
    pub rest : List X
    pub is : xs ≡ m.closing i log e j ∷ rest
    pub past : IsPast rest all

  -- the link from host i, which stopped with the newest step of its log, to host j gave these and is closed
  abbrev pub IsClosing : ℕ → ℕ → List E → List X → Type 0
  IsClosing i j [] xs = ⊥
  IsClosing i j (e ∷ log) xs = Closes i log e j (sent i j (e ∷ log)) xs

  -- what the link from host i with this log to host j may have given: first in, first out
  abbrev pub IsGiven : ℕ → ℕ → List E → List X → Type 0
  IsGiven i j log xs = IsPast xs (sent i j log) ⊎ IsClosing i j log xs
