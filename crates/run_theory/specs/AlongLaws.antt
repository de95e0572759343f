-- Induction along runs, as the contracts of functions name it.
use Rattle.std.specs.Prelude.{ℕ, Bool, List, [], ◌∷◌, IsTrue}
use Rattle.run_theory.specs.Machine.{IsStamped}
use Rattle.run_theory.specs.TestMachine.{TestMachine, machine}
use Rattle.run_theory.specs.Runs.{Run, Happens, AreLogs, IsWithin, log_of}
use Rattle.run_theory.specs.Cuts.{IsCut, IsClosed}
use Rattle.run_theory.specs.Along.{IsKept, AllHold}

-- what a test says of logs, and what one says of a signal and the logs
abbrev pub Passes : {A : Type 0} → (A → Bool) → A → Type 0
Passes q a = IsTrue (q a)

abbrev pub PassesWith : {A B : Type 0} → (A → B → Bool) → A → B → Type 0
PassesWith k a b = IsTrue (k a b)

-- what holds at the start and is kept by each event holds after every run
abbrev pub RunsKeep : (E X : Type 0) → Type 0
RunsKeep E X =
    (t : TestMachine E X) (p : List E → Bool) → IsTrue (p [])
    → ((es : List E) (e : E) → Run (machine t) es → Happens (machine t) es e → IsTrue (p es) → IsTrue (p (e ∷ es)))
    → (es : List E) → Run (machine t) es → IsTrue (p es)

-- an invariant of the logs, with what each signal tells of them, holds after every run
abbrev pub RunsKeepWithSignals : (E X : Type 0) → Type 0
RunsKeepWithSignals E X =
    (t : TestMachine E X) (k : X → (ℕ → List E) → Bool) (q : (ℕ → List E) → Bool)
    → IsKept (machine t) (PassesWith k) (Passes q)
    → (es : List E) → Run (machine t) es → AllHold (machine t) (PassesWith k) (Passes q) (log_of (machine t) es)

-- it holds of all right logs
abbrev pub LogsKeepWithSignals : (E X : Type 0) → Type 0
LogsKeepWithSignals E X =
    (t : TestMachine E X) → IsStamped (machine t) → (k : X → (ℕ → List E) → Bool) (q : (ℕ → List E) → Bool)
    → IsKept (machine t) (PassesWith k) (Passes q)
    → (n : ℕ) (logs : ℕ → List E) → IsWithin n logs → AreLogs (machine t) logs
    → AllHold (machine t) (PassesWith k) (Passes q) logs

-- and of every closed cut of right logs
abbrev pub CutsKeepWithSignals : (E X : Type 0) → Type 0
CutsKeepWithSignals E X =
    (t : TestMachine E X) → IsStamped (machine t) → (k : X → (ℕ → List E) → Bool) (q : (ℕ → List E) → Bool)
    → IsKept (machine t) (PassesWith k) (Passes q)
    → (n : ℕ) (inside logs : ℕ → List E) → IsWithin n logs → AreLogs (machine t) logs → IsCut inside logs
    → IsClosed (machine t) inside
    → AllHold (machine t) (PassesWith k) (Passes q) inside

-- what holds of the logs of every run holds of all right logs
abbrev pub LogsAreAsRuns : (E X : Type 0) → Type 0
LogsAreAsRuns E X =
    (t : TestMachine E X) → IsStamped (machine t) → (q : (ℕ → List E) → Bool)
    → ((es : List E) → Run (machine t) es → IsTrue (q (log_of (machine t) es)))
    → (n : ℕ) (logs : ℕ → List E) → IsWithin n logs → AreLogs (machine t) logs → IsTrue (q logs)

-- and so of every closed cut of right logs
abbrev pub CutsAreAsRuns : (E X : Type 0) → Type 0
CutsAreAsRuns E X =
    (t : TestMachine E X) → IsStamped (machine t) → (q : (ℕ → List E) → Bool)
    → ((es : List E) → Run (machine t) es → IsTrue (q (log_of (machine t) es)))
    → (n : ℕ) (inside logs : ℕ → List E) → IsWithin n logs → AreLogs (machine t) logs → IsCut inside logs
    → IsClosed (machine t) inside → IsTrue (q inside)
