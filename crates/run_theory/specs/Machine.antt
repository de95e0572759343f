-- What a machine is: hosts that take signals in steps, and send signals over links.
use Rattle.std.specs.Prelude.{◌≡◌, ℕ, Bool, List}
use Rattle.run_theory.specs.Lists.{Each}

-- A machine over steps E and signals X of any types. It reads what it needs off them, and says which step may
-- follow which log and what that step sends. A log is the list of a host's steps, the newest first.
pub record Machine (E X : Type 0) : Type 1 where
  -- the host of a step
  pub host : E → ℕ
  -- the stamp of a step
  pub stamp : E → ℕ
  -- stamps may be skipped
  pub skips : Bool
  -- the signal that a step took
  pub signal : E → X
  -- no link gave the signal of the step: the host was asked, or asked itself
  pub asked : E → Bool
  -- the host that sent a signal
  pub from : X → ℕ
  -- the host that a signal is for
  pub to : X → ℕ
  -- the stamp of the step that sent a signal
  pub sent_at : X → ℕ
  -- `Fits h log e`: after its log, host h may make the step e, as far as its own state goes
  pub Fits : ℕ → List E → E → Type 0
  -- `sends h log e`: the signals that host h sends in the step e after its log, the first one first
  pub sends : ℕ → List E → E → List X
  -- the host stops with this step
  pub stops : E → Bool
  -- `closing h log e j`: what the link from host h to host j gives last, where h stopped with the step e after its log
  pub closing : ℕ → List E → E → ℕ → X
  -- the stamp of the step that made the host, or 0 for a host that is there from the start
  pub made : ℕ → ℕ
  -- `Makes h log e`: the step e of host 0 after its log makes host h
  pub Makes : ℕ → List E → E → Type 0

-- The one law that a machine owes: whatever a step sends has the stamp of that step.
pub record IsStamped {E X : Type 0} (m : Machine E X) : Type 0 where
  pub sends : (h : ℕ) (log : List E) (e : E) → Each (λ x. m.sent_at x ≡ m.stamp e) (m.sends h log e)
  pub closing : (h : ℕ) (log : List E) (e : E) (j : ℕ) → m.sent_at (m.closing h log e j) ≡ m.stamp e
