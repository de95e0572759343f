-- The laws of logs and links in words of their own, as the contracts of functions name them.
use Rattle.std.specs.Prelude.{◌≡◌, ◌≢◌, ◌⊎◌, ◌<◌, ◌≤◌, ℕ, suc, Bool, true, false, List, [], ◌∷◌, ◌++◌, length, reverse}
use Rattle.std.specs.Prelude.{count_by, slice_get, Option, Some, None, filter_map, if◌then◌else◌}
use Rattle.run_theory.specs.Lists.{IsIn, IsPast}
use Rattle.run_theory.specs.Machine.{Machine, IsStamped}
use Rattle.run_theory.specs.TestMachine.{TestMachine, machine}
use Rattle.run_theory.specs.Links.{sent_by, sent, taken}
use Rattle.run_theory.specs.Logs.{IsLog, IsMade}
use Rattle.run_theory.specs.Runs.{AreLogs}

-- the k-th entry in the order of time, the oldest one at 0
abbrev pub at_time : {A : Type 0} → List A → ℕ → Option A
at_time xs k = slice_get (reverse xs) k

module _ {E X : Type 0} (m : Machine E X) where
  -- host i, with this log, stopped, and x closes its link to host j
  abbrev pub IsClosingOf : ℕ → ℕ → List E → X → Type 0
  IsClosingOf i j [] x = ⊥
  IsClosingOf i j (e ∷ log) x = (m.stops e ≡ true) × (x ≡ m.closing i log e j)

  -- all that the link from host i, with this log, to host j gives where nothing is lost
  abbrev pub offered : ℕ → ℕ → List E → List X
  offered i j [] = []
  offered i j (e ∷ log) = if m.stops e then m.closing i log e j ∷ sent m i j (e ∷ log) else sent m i j (e ∷ log)

  -- a step in this log of host i sent x to host j, or stopped and so closed the link with x
  pub record IsSentBy (i j : ℕ) (log : List E) (x : X) : Type 0 where
    pub step : E
    pub before : List E
    pub past : IsPast (step ∷ before) log
    pub at : m.stamp step ≡ m.sent_at x
    pub sends : (IsIn x (sent_by m i before step) × (m.to x ≡ j))
        ⊎ ((m.stops step ≡ true) × (x ≡ m.closing i before step j))

-- First in, first out: the k-th signal that was taken from a link is the k-th that was sent, but for the closing,
-- and that is the last one taken.
abbrev pub FirstInFirstOut : (E X : Type 0) → Type 0
FirstInFirstOut E X =
    (t : TestMachine E X) (logs : ℕ → List E) → AreLogs (machine t) logs → (i j k : ℕ) (x : X)
    → at_time (taken (machine t) i (logs j)) k ≡ Some x
    → (at_time (sent (machine t) i j (logs i)) k ≡ Some x)
    ⊎ (IsClosingOf (machine t) i j (logs i) x × (suc k ≡ length (taken (machine t) i (logs j))))

-- nothing follows a step that stops
abbrev pub NothingFollowsStop : (E X : Type 0) → Type 0
NothingFollowsStop E X =
    (t : TestMachine E X) (h : ℕ) (newer older : List E) (e : E) → IsLog (machine t) h (newer ++ e ∷ older)
    → t.stops e ≡ true → newer ≡ []

-- after the closing of a link nothing more is taken from it
abbrev pub ClosingIsLast : (E X : Type 0) → Type 0
ClosingIsLast E X =
    (t : TestMachine E X) → IsStamped (machine t) → (logs : ℕ → List E) → AreLogs (machine t) logs
    → (i j : ℕ) (x : X) (newer older : List X)
    → IsClosingOf (machine t) i j (logs i) x → taken (machine t) i (logs j) ≡ newer ++ x ∷ older → newer ≡ []

-- a signal that a link gave was sent by a step of its sender, and the step that took it has the greater stamp
abbrev pub StampsRise : (E X : Type 0) → Type 0
StampsRise E X =
    (t : TestMachine E X) → IsStamped (machine t) → (logs : ℕ → List E) → AreLogs (machine t) logs
    → (j : ℕ) (e : E) (older : List E)
    → IsPast (e ∷ older) (logs j) → t.asked e ≡ false
    → (s : IsSentBy (machine t) (t.from (t.signal e)) j (logs (t.from (t.signal e))) (t.signal e))
    × (t.stamp s.step < t.stamp e)

-- a host that was made later makes its steps after the step of host 0 that made it
abbrev pub HostsAreMadeFirst : (E X : Type 0) → Type 0
HostsAreMadeFirst E X =
    (t : TestMachine E X) (logs : ℕ → List E) → AreLogs (machine t) logs → (h : ℕ) (e : E) (older : List E)
    → IsPast (e ∷ older) (logs h) → t.made h ≢ 0
    → (d : IsMade (machine t) h (logs 0)) × (t.stamp d.step < t.stamp e)

-- a signal is taken at most once: of the signals that pass a test, no more are taken from a link than are put on it
abbrev pub TakenAtMostOnce : (E X : Type 0) → Type 0
TakenAtMostOnce E X =
    (t : TestMachine E X) (logs : ℕ → List E) → AreLogs (machine t) logs → (i j : ℕ) (p : X → Bool)
    → count_by p (taken (machine t) i (logs j)) ≤ count_by p (offered (machine t) i j (logs i))

-- what one reads off the signals taken from a link, but not off its closing, is an older part of what one reads off
-- those sent
abbrev pub LinksProject : (E X Y : Type 0) → Type 0
LinksProject E X Y =
    (t : TestMachine E X) (logs : ℕ → List E) → AreLogs (machine t) logs → (i j : ℕ) (f : X → Option Y)
    → ((x : X) → IsClosingOf (machine t) i j (logs i) x → f x ≡ None)
    → IsPast (filter_map f (taken (machine t) i (logs j))) (filter_map f (sent (machine t) i j (logs i)))
