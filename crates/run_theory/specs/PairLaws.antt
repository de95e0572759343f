-- The laws of hosts that are compared by pairs, as the contracts of functions name them.
use Rattle.std.specs.Prelude.{◌≡◌, ◌≢◌, ◌<◌, ℕ, List, length, reverse}
use mathlib.Core.List.{IsPrefix}
use Rattle.run_theory.specs.TestMachine.{TestMachine, machine}
use Rattle.run_theory.specs.Links.{sent, taken}
use Rattle.run_theory.specs.Logs.{IsRunning}
use Rattle.run_theory.specs.Runs.{AreLogs}
use Rattle.run_theory.specs.Pairs.{Flows, KeepsLog, AreKeptByPairs}

-- of two hosts that keep their logs, where the one got a front of what the other put, it took what the link gave
abbrev pub PairsFlow : (E X : Type 0) → Type 0
PairsFlow E X =
    (t : TestMachine E X) (n i j : ℕ) (here to : List E) (put got put' got' : ℕ → List X) → i < n → j < n → i ≢ j
    → KeepsLog (machine t) n i here put got → KeepsLog (machine t) n j to put' got' → IsPrefix (got' i) (put j)
    → Flows (machine t) i j here to

-- what hosts keep, compared by pairs, are right logs
abbrev pub PairsKeepRightLogs : (E X : Type 0) → Type 0
PairsKeepRightLogs E X =
    (t : TestMachine E X) (n : ℕ) (logs : ℕ → List E) (puts gets : ℕ → ℕ → List X)
    → AreKeptByPairs (machine t) n logs puts gets → AreLogs (machine t) logs

-- of right logs, as many signals as a running host sent are those that it sent
abbrev pub LengthsTellQuiet : (E X : Type 0) → Type 0
LengthsTellQuiet E X =
    (t : TestMachine E X) (logs : ℕ → List E) → AreLogs (machine t) logs → (i j : ℕ) → IsRunning (machine t) (logs i)
    → length (taken (machine t) i (logs j)) ≡ length (sent (machine t) i j (logs i))
    → taken (machine t) i (logs j) ≡ sent (machine t) i j (logs i)

-- where a host got as many as a running host sent it, and has taken what it got, it has taken what was sent
abbrev pub LengthsOfLinksTellQuiet : (E X : Type 0) → Type 0
LengthsOfLinksTellQuiet E X =
    (t : TestMachine E X) (n : ℕ) (logs : ℕ → List E) (puts gets : ℕ → ℕ → List X)
    → AreKeptByPairs (machine t) n logs puts gets
    → (i j : ℕ) → i < n → j < n → i ≢ j → IsRunning (machine t) (logs i)
    → length (gets i j) ≡ length (sent (machine t) i j (logs i)) → taken (machine t) i (logs j) ≡ reverse (gets i j)
    → taken (machine t) i (logs j) ≡ sent (machine t) i j (logs i)

-- the same of one link, where its sender has put all that it sent, by the lengths of its two ends
abbrev pub LengthsOfEndsTellQuiet : (E X : Type 0) → Type 0
LengthsOfEndsTellQuiet E X =
    (t : TestMachine E X) (i j : ℕ) (here to : List E) (put got : List X) → sent (machine t) i j here ≡ reverse put
    → taken (machine t) i to ≡ reverse got → IsPrefix got put → length got ≡ length put
    → taken (machine t) i to ≡ sent (machine t) i j here
