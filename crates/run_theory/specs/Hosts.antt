-- What running hosts and links keep, in the order of time.
use Rattle.std.specs.Prelude.{ℕ, List, reverse}
use mathlib.Core.List.{IsPrefix}
use Rattle.run_theory.specs.Lists.{HasEntry}
use Rattle.run_theory.specs.Machine.{Machine}
use Rattle.run_theory.specs.Links.{taken, IsGiven}
use Rattle.run_theory.specs.Logs.{IsLog, IsThere}

-- The lists of hosts and links, each the oldest entry first: `own h` has the steps of host h, `puts i j` what host i
-- put on its link to host j, and `takes i j` what host j got from it.
pub record AreKept {E X : Type 0} (m : Machine E X) (own : ℕ → List E) (puts takes : ℕ → ℕ → List X) : Type 0 where
  -- a host's steps are a log of it
  pub local : (h : ℕ) → IsLog m h (reverse (own h))
  -- a host that made a step is there
  pub there : (h : ℕ) → HasEntry (own h) → IsThere m h (reverse (own 0))
  -- a host puts on a link a front of what its steps send there, and after its stop the closing behind it
  pub sends : (i j : ℕ) → IsGiven m i j (reverse (own i)) (reverse (puts i j))
  -- a link gives a front of what was put on it
  pub gives : (i j : ℕ) → IsPrefix (takes i j) (puts i j)
  -- a host's steps take a front of what it got from a link
  pub took : (i j : ℕ) → IsPrefix (reverse (taken m i (reverse (own j)))) (takes i j)
