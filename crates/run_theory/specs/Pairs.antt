-- What hosts keep that run side by side: each its own log and its own ends of links, compared by pairs.
use Rattle.std.specs.Prelude.{◌≡◌, ◌≢◌, ◌<◌, ◌≤◌, ℕ, List, [], reverse}
use mathlib.Core.List.{IsPrefix}
use Rattle.run_theory.specs.Lists.{HasEntry, IsPast}
use Rattle.run_theory.specs.Machine.{Machine}
use Rattle.run_theory.specs.Links.{taken, IsGiven}
use Rattle.run_theory.specs.Logs.{IsLog, IsThere}
use Rattle.run_theory.specs.Runs.{IsWithin}

module _ {E X : Type 0} (m : Machine E X) where
  -- what a host with the log `to` took from host i, which has the log `here`, its link gave
  abbrev pub Flows : ℕ → ℕ → List E → List E → Type 0
  Flows i j here to = IsGiven m i j here (taken m i to)

  -- What host h, one of n, keeps by itself: its log, the newest step first, and of its link to each other host, the
  -- oldest signal first, what it put on it and what it got from it.
  pub record KeepsLog (n h : ℕ) (log : List E) (put got : ℕ → List X) : Type 0 where
    pub local : IsLog m h log
    -- it put a front of what its steps send there, and after its stop the closing behind it
    pub sends : (j : ℕ) → j < n → j ≢ h → IsGiven m h j log (reverse (put j))
    -- its steps took a front of what it got
    pub took : (i : ℕ) → i < n → i ≢ h → IsPast (taken m i log) (reverse (got i))
    -- they took from itself what it sent itself, and nothing from a host that is none of the n
    pub own : Flows h h log log
    pub none : (i : ℕ) → n ≤ i → taken m i log ≡ []

  -- What all n hosts keep: `puts i j` is what host i put on its link to host j, and `gets i j` what host j got from it.
  pub record AreKeptByPairs (n : ℕ) (logs : ℕ → List E) (puts gets : ℕ → ℕ → List X) : Type 0 where
    pub hosts : (h : ℕ) → h < n → KeepsLog n h (logs h) (puts h) (λ i. gets i h)
    -- a host that made a step is there
    pub there : (h : ℕ) → h < n → HasEntry (logs h) → IsThere m h (logs 0)
    -- of each two hosts the one got a front of what the other put
    pub gives : (i j : ℕ) → i < n → j < n → i ≢ j → IsPrefix (gets i j) (puts i j)
    pub within : IsWithin n logs
