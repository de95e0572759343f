-- The laws of runs and right logs, as the contracts of functions name them.
use Rattle.std.specs.Prelude.{ℕ, List, IsPermutation}
use Rattle.run_theory.specs.Machine.{IsStamped}
use Rattle.run_theory.specs.TestMachine.{TestMachine, machine}
use Rattle.run_theory.specs.Runs.{Run, AreLogs, IsWithin, log_of}
use Rattle.run_theory.specs.Orders.{HasLogs, IsByStamp, IsCausal, joined, merged, LogsRun}

-- a run leaves right logs
abbrev pub RunsLeaveRightLogs : (E X : Type 0) → Type 0
RunsLeaveRightLogs E X =
    (t : TestMachine E X) (es : List E) → Run (machine t) es → AreLogs (machine t) (log_of (machine t) es)

-- a run keeps to causes
abbrev pub RunsAreCausal : (E X : Type 0) → Type 0
RunsAreCausal E X =
    (t : TestMachine E X) → IsStamped (machine t) → (es : List E) → Run (machine t) es → IsCausal (machine t) es

-- right logs, merged in order of (stamp, host), are a run, and its logs are those again
abbrev pub MergedLogsRun : (E X : Type 0) → Type 0
MergedLogsRun E X =
    (t : TestMachine E X) → IsStamped (machine t) → (n : ℕ) (logs : ℕ → List E) → IsWithin n logs
    → AreLogs (machine t) logs
    → LogsRun (machine t) n logs × HasLogs (machine t) (merged (machine t) n logs) logs

-- right logs are a run in any order by stamp
abbrev pub LogsByStampRun : (E X : Type 0) → Type 0
LogsByStampRun E X =
    (t : TestMachine E X) → IsStamped (machine t) → (es : List E) (logs : ℕ → List E)
    → HasLogs (machine t) es logs → IsByStamp (machine t) es → AreLogs (machine t) logs
    → Run (machine t) es

-- the steps of right logs, sorted by stamp, are a run and have those logs
abbrev pub SortedLogsRun : (E X : Type 0) → Type 0
SortedLogsRun E X =
    (t : TestMachine E X) → IsStamped (machine t) → (n : ℕ) (logs : ℕ → List E) (es : List E) → IsWithin n logs
    → AreLogs (machine t) logs → IsPermutation (joined n logs) es → IsByStamp (machine t) es
    → Run (machine t) es × HasLogs (machine t) es logs

-- right logs are a run in any order that keeps to causes
abbrev pub CausalLogsRun : (E X : Type 0) → Type 0
CausalLogsRun E X =
    (t : TestMachine E X) → IsStamped (machine t) → (es : List E) (logs : ℕ → List E)
    → HasLogs (machine t) es logs → IsCausal (machine t) es → AreLogs (machine t) logs
    → Run (machine t) es

-- a schedule, in whatever order it takes the hosts, leaves logs whose merged order is a run
abbrev pub SchedulesRunMerged : (E X : Type 0) → Type 0
SchedulesRunMerged E X =
    (t : TestMachine E X) → IsStamped (machine t) → (n : ℕ) (es : List E) → IsWithin n (log_of (machine t) es)
    → Run (machine t) es
    → LogsRun (machine t) n (log_of (machine t) es)
