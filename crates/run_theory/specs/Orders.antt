-- Orders in which the steps of right logs may stand in one list.
use Rattle.std.specs.Prelude.{◌≡◌, ◌==◌, ◌<◌, ◌≤◌, ◌&&◌, ◌||◌, ℕ, zero, suc, Bool, false, List, [], ◌∷◌, ◌++◌}
use Rattle.std.specs.Prelude.{if◌then◌else◌, nat_lt}
use Rattle.run_theory.specs.Lists.{Each}
use Rattle.run_theory.specs.Machine.{Machine}
use Rattle.run_theory.specs.Runs.{Run, log_of}

-- the logs of the hosts below n one behind another
abbrev pub joined : {E : Type 0} → ℕ → (ℕ → List E) → List E
joined zero logs = []
joined (suc n) logs = logs n ++ joined n logs

module _ {E X : Type 0} (m : Machine E X) where
  -- these events, in some order, are the steps of these logs, and keep the order of each log
  abbrev pub HasLogs : List E → (ℕ → List E) → Type 0
  HasLogs es logs = (h : ℕ) → log_of m es h ≡ logs h

  -- the stamps don't fall
  abbrev pub IsByStamp : List E → Type 0
  IsByStamp [] = Unit {0}
  IsByStamp (e ∷ es) = Each (λ before. m.stamp before ≤ m.stamp e) es × IsByStamp es

  -- The step e may stand after `before`: that took nothing which e sent, nor is it of a host which e made.
  pub record MayFollow (before e : E) : Type 0 where
    pub took : m.asked before ≡ false → m.from (m.signal before) ≡ m.host e → m.sent_at (m.signal before) < m.stamp e
    pub made : m.host e ≡ 0 → m.made (m.host before) < m.stamp e

  -- each event may stand after all those before it
  abbrev pub IsCausal : List E → Type 0
  IsCausal [] = Unit {0}
  IsCausal (e ∷ es) = Each (λ before. MayFollow before e) es × IsCausal es

  -- e has the greater stamp, or the same one and the greater host
  abbrev pub is_after : E → E → Bool
  is_after e before =
      nat_lt (m.stamp before) (m.stamp e) || ((m.stamp before == m.stamp e) && nat_lt (m.host before) (m.host e))

  -- the event at its place in the order of (stamp, host)
  abbrev pub insert : E → List E → List E
  insert e [] = e ∷ []
  insert e (f ∷ es) = if is_after f e then f ∷ insert e es else e ∷ f ∷ es

  -- the steps of a log, each at its place
  abbrev pub insert_all : List E → List E → List E
  insert_all [] es = es
  insert_all (e ∷ log) es = insert e (insert_all log es)

  -- all steps of the hosts below n in order of (stamp, host), the newest first
  abbrev pub merged : ℕ → (ℕ → List E) → List E
  merged zero logs = []
  merged (suc n) logs = insert_all (logs n) (merged n logs)

  -- the logs of the hosts below n, merged, are a run
  abbrev pub LogsRun : ℕ → (ℕ → List E) → Type 0
  LogsRun n logs = Run m (merged n logs)
