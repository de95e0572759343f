-- The log of one host: which step may follow which.
use Rattle.std.specs.Prelude.{◌≡◌, ◌⊎◌, ◌+◌, ◌<◌, ℕ, max, Bool, true, false, List, [], ◌∷◌}
use Rattle.run_theory.specs.Lists.{IsPast}
use Rattle.run_theory.specs.Machine.{Machine}

-- a stamp that comes behind another one: the next, or where stamps may be skipped a later one
abbrev pub IsBehind : Bool → ℕ → ℕ → Type 0
IsBehind false before stamp = stamp ≡ before + 1
IsBehind true before stamp = before < stamp

module _ {E X : Type 0} (m : Machine E X) where
  -- the stamp of the newest step, or of the making of the host where there is no step
  abbrev pub last : ℕ → List E → ℕ
  last h [] = m.made h
  last h (e ∷ log) = m.stamp e

  -- the host didn't stop with its newest step
  abbrev pub IsRunning : List E → Type 0
  IsRunning [] = Unit {0}
  IsRunning (e ∷ log) = m.stops e ≡ false

  -- Host h may make the step e after its log: it still runs, the step fits, and the stamp comes behind the greater of
  -- those of the step before and of the signal.
  pub record IsStep (h : ℕ) (log : List E) (e : E) : Type 0 where
    pub at : m.host e ≡ h
    pub stamped : IsBehind m.skips (max (last h log) (m.sent_at (m.signal e))) (m.stamp e)
    pub runs : IsRunning log
    pub fits : m.Fits h log e

  -- each entry is a step after those below it
  abbrev pub IsLog : ℕ → List E → Type 0
  IsLog h [] = Unit {0}
  IsLog h (e ∷ log) = IsStep h log e × IsLog h log

  -- a step in this log of host 0 makes host h, and gives it its first stamp
  pub record IsMade (h : ℕ) (log : List E) : Type 0 where
    pub step : E
    pub before : List E
    pub past : IsPast (step ∷ before) log
    pub at : m.stamp step ≡ m.made h
    pub makes : m.Makes h before step

  -- host h is there when host 0 has this log: it was there from the start, or was made
  abbrev pub IsThere : ℕ → List E → Type 0
  IsThere h log = (m.made h ≡ 0) ⊎ IsMade h log
