-- The laws of cuts, as the contracts of functions name them.
use Rattle.std.specs.Prelude.{◌↔◌, ℕ, Bool, List, IsTrue, ◌∷◌}
use Rattle.run_theory.specs.Machine.{IsStamped}
use Rattle.run_theory.specs.TestMachine.{TestMachine, machine}
use Rattle.run_theory.specs.Runs.{Run, Happens, AreLogs, IsWithin, log_of}
use Rattle.run_theory.specs.Orders.{LogsRun}
use Rattle.run_theory.specs.Cuts.{IsCut, IsClosed}
use Rattle.run_theory.specs.Along.{Grows}

-- a cut of right logs is closed exactly where it is right logs itself
abbrev pub CutsAreClosedWhereRight : (E X : Type 0) → Type 0
CutsAreClosedWhereRight E X =
    (t : TestMachine E X) → IsStamped (machine t) → (inside logs : ℕ → List E) → AreLogs (machine t) logs
    → IsCut inside logs
    → IsClosed (machine t) inside ↔ AreLogs (machine t) inside

-- right logs are a closed cut of themselves
abbrev pub LogsAreClosed : (E X : Type 0) → Type 0
LogsAreClosed E X = (t : TestMachine E X) → IsStamped (machine t) → (logs : ℕ → List E) → AreLogs (machine t) logs
    → IsCut logs logs × IsClosed (machine t) logs

-- a closed cut of right logs, merged, is a run
abbrev pub ClosedCutsRun : (E X : Type 0) → Type 0
ClosedCutsRun E X =
    (t : TestMachine E X) → IsStamped (machine t) → (n : ℕ) (inside logs : ℕ → List E) → IsWithin n logs
    → AreLogs (machine t) logs → IsCut inside logs → IsClosed (machine t) inside
    → LogsRun (machine t) n inside

-- Of two closed cuts, one inside the other, the larger is the smaller plus further events: any run to the smaller
-- one goes on to the larger.
abbrev pub ClosedCutsGrow : (E X : Type 0) → Type 0
ClosedCutsGrow E X =
    (t : TestMachine E X) → IsStamped (machine t) → (n : ℕ) (es : List E) (large logs : ℕ → List E)
    → IsWithin n logs → AreLogs (machine t) logs → IsCut large logs → IsClosed (machine t) large
    → Run (machine t) es → IsCut (log_of (machine t) es) large
    → Grows (machine t) es large

-- what further events keep holds of a closed cut where it holds of a closed cut inside it
abbrev pub ClosedCutsKeep : (E X : Type 0) → Type 0
ClosedCutsKeep E X =
    (t : TestMachine E X) → IsStamped (machine t) → (q : (ℕ → List E) → Bool)
    → ((es : List E) (e : E) → Run (machine t) es → Happens (machine t) es e → IsTrue (q (log_of (machine t) es)) →
    IsTrue (q (log_of (machine t) (e ∷ es))))
    → (n : ℕ) (small large logs : ℕ → List E) → IsWithin n logs → AreLogs (machine t) logs → IsCut large logs
    → IsClosed (machine t) large → IsCut small large → IsClosed (machine t) small
    → IsTrue (q small) → IsTrue (q large)
