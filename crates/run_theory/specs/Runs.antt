-- Runs: one event after another, each a step of one host.
use Rattle.std.specs.Prelude.{◌≡◌, ◌==◌, ◌≤◌, ℕ, false, List, [], ◌∷◌, if◌then◌else◌}
use Rattle.run_theory.specs.Lists.{HasEntry}
use Rattle.run_theory.specs.Machine.{Machine}
use Rattle.run_theory.specs.Links.{taken, IsGiven}
use Rattle.run_theory.specs.Logs.{IsStep, IsLog, IsThere}

-- only hosts below n have steps
abbrev pub IsWithin : {E : Type 0} → ℕ → (ℕ → List E) → Type 0
IsWithin n logs = (h : ℕ) → n ≤ h → logs h ≡ []

module _ {E X : Type 0} (m : Machine E X) where
  -- the log of host h after these events
  abbrev pub log_of : List E → ℕ → List E
  log_of [] h = []
  log_of (e ∷ es) h = if m.host e == h then e ∷ log_of es h else log_of es h

  -- after these events the link from host i to host j may give x next
  abbrev pub GivesNext : List E → ℕ → ℕ → X → Type 0
  GivesNext es i j x = IsGiven m i j (log_of es i) (x ∷ taken m i (log_of es j))

  -- After these events the step e may come: it is a step of its host, its host is there, and its signal is what
  -- its link gives next, unless no link gave it.
  pub record Happens (es : List E) (e : E) : Type 0 where
    pub step : IsStep m (m.host e) (log_of es (m.host e)) e
    pub there : IsThere m (m.host e) (log_of es 0)
    pub takes : m.asked e ≡ false → GivesNext es (m.from (m.signal e)) (m.host e) (m.signal e)

  -- The machine: these events, the newest first, came one after another.
  abbrev pub Run : List E → Type 0
  Run [] = Unit {0}
  Run (e ∷ es) = Run es × Happens es e

  -- Right logs: what running hosts promise, host by host and link by link, with no order between hosts.
  pub record AreLogs (logs : ℕ → List E) : Type 0 where
    -- each log is one of its host
    pub local : (h : ℕ) → IsLog m h (logs h)
    -- a host that made a step is there
    pub there : (h : ℕ) → HasEntry (logs h) → IsThere m h (logs 0)
    -- what a host took from a link is what the link gave
    pub linked : (i j : ℕ) → IsGiven m i j (logs i) (taken m i (logs j))
