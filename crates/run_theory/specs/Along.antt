-- What holds all along a run, and what each signal on its way tells of the logs.
use Rattle.std.specs.Prelude.{◌≡◌, ◌++◌, ℕ, true, false, List, [], ◌∷◌}
use Rattle.run_theory.specs.Lists.{Each}
use Rattle.run_theory.specs.Machine.{Machine}
use Rattle.run_theory.specs.Links.{sent}
use Rattle.run_theory.specs.Runs.{log_of, Happens, Run}
use Rattle.run_theory.specs.Orders.{HasLogs}

module _ {E X : Type 0} (m : Machine E X) (K : X → (ℕ → List E) → Type 0) (Q : (ℕ → List E) → Type 0) where
  -- Q holds of these logs, and K of all that was sent and of the closings of the hosts that stopped
  pub record AllHold (logs : ℕ → List E) : Type 0 where
    pub law : Q logs
    pub sent_hold : (i j : ℕ) → Each (λ x. K x logs) (sent m i j (logs i))
    pub closing_hold : (i j : ℕ) (e : E) (log : List E) → logs i ≡ e ∷ log → m.stops e ≡ true
        → K (m.closing i log e j) logs

  -- The event e comes after a run where all this holds, and K of the signal that e takes from a link.
  pub record Comes (es : List E) (e : E) : Type 0 where
    pub run : Run m es
    pub happens : Happens m es e
    pub all : AllHold (log_of m es)
    pub told : m.asked e ≡ false → K (m.signal e) (log_of m es)

  -- An invariant: Q holds at the start and after each event that comes; K holds of each signal that the event sends,
  -- of the closing if the host stops, and still of each signal that it held of before.
  pub record IsKept : Type 0 where
    pub start : Q (log_of m [])
    pub step : (es : List E) (e : E) → Comes es e → Q (log_of m (e ∷ es))
    pub sends : (es : List E) (e : E) → Comes es e → m.stops e ≡ false
        → Each (λ x. K x (log_of m (e ∷ es))) (m.sends (m.host e) (log_of m es (m.host e)) e)
    pub closing : (es : List E) (e : E) → Comes es e → m.stops e ≡ true → (j : ℕ)
        → K (m.closing (m.host e) (log_of m es (m.host e)) e j) (log_of m (e ∷ es))
    pub stays : (es : List E) (e : E) (x : X) → Comes es e → K x (log_of m es) → K x (log_of m (e ∷ es))

-- a run goes on by more events, to these logs
pub record Grows {E X : Type 0} (m : Machine E X) (es : List E) (large : ℕ → List E) : Type 0 where
  pub more : List E
  pub run : Run m (more ++ es)
  pub logs : HasLogs m (more ++ es) large
