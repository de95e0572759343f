-- The law of the order by rank, as the contract of a function names it.
use Rattle.std.specs.Prelude.{ℕ, List}
use Rattle.run_theory.specs.Machine.{IsStamped}
use Rattle.run_theory.specs.TestMachine.{TestMachine, machine}
use Rattle.run_theory.specs.Runs.{Run, AreLogs, IsWithin}
use Rattle.run_theory.specs.Orders.{HasLogs}
use Rattle.run_theory.specs.Ranks.{IsCausalRank, in_order, ranked, IsByRank}

-- Right logs are a run in order of (rank, stamp, host), whatever rank falls neither along a log nor along a signal,
-- and its logs are those again.
abbrev pub RankedLogsRun : (E X : Type 0) → Type 0
RankedLogsRun E X =
    (t : TestMachine E X) → IsStamped (machine t) → (rank : ℕ → List E → ℕ) → IsCausalRank (machine t) rank
    → (n : ℕ) (logs : ℕ → List E) → IsWithin n logs → AreLogs (machine t) logs
    → Run (machine t) (in_order (ranked (machine t) rank n logs))
    × HasLogs (machine t) (in_order (ranked (machine t) rank n logs)) logs
    × IsByRank (machine t) rank (ranked (machine t) rank n logs)
