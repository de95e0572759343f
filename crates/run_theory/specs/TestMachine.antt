-- Machines whose relations are tests, over which the clause of a function can range.
use Rattle.std.specs.Prelude.{ℕ, Bool, List, IsTrue}
use Rattle.run_theory.specs.Machine.{Machine}

-- a machine as in `Machine`, with tests for what fits and what makes a host
pub record TestMachine (E X : Type 0) : Type 0 where
  pub host : E → ℕ
  pub stamp : E → ℕ
  pub skips : Bool
  pub signal : E → X
  pub asked : E → Bool
  pub from : X → ℕ
  pub to : X → ℕ
  pub sent_at : X → ℕ
  pub fits : ℕ → List E → E → Bool
  pub sends : ℕ → List E → E → List X
  pub stops : E → Bool
  pub closing : ℕ → List E → E → ℕ → X
  pub made : ℕ → ℕ
  pub makes : ℕ → List E → E → Bool

-- the machine whose relations are these tests
abbrev pub machine : {E X : Type 0} → TestMachine E X → Machine E X
machine t =
    record {
      host = t.host;
      stamp = t.stamp;
      skips = t.skips;
      signal = t.signal;
      asked = t.asked;
      from = t.from;
      to = t.to;
      sent_at = t.sent_at;
      Fits = λ h log e. IsTrue (t.fits h log e);
      sends = t.sends;
      stops = t.stops;
      closing = t.closing;
      made = t.made;
      Makes = λ h log e. IsTrue (t.makes h log e);
    }
