-- Cuts: an older part of each log.
use Rattle.std.specs.Prelude.{◌≤◌, ℕ, List}
use Rattle.run_theory.specs.Lists.{Each, HasEntry, IsPast}
use Rattle.run_theory.specs.Machine.{Machine}
use Rattle.run_theory.specs.Links.{taken}
use Rattle.run_theory.specs.Logs.{last}

-- inside the cut lies an older part of each log
abbrev pub IsCut : {E : Type 0} → (ℕ → List E) → (ℕ → List E) → Type 0
IsCut inside logs = (h : ℕ) → IsPast (inside h) (logs h)

-- A cut is closed, by its stamps alone.
pub record IsClosed {E X : Type 0} (m : Machine E X) (inside : ℕ → List E) : Type 0 where
  -- no signal taken inside has a stamp above the last stamp of its sender inside
  pub signals : (i j : ℕ) → Each (λ x. m.sent_at x ≤ last m i (inside i)) (taken m i (inside j))
  -- no host with a step inside was made at a stamp above the last one of host 0 inside
  pub hosts : (h : ℕ) → HasEntry (inside h) → m.made h ≤ last m 0 (inside 0)
