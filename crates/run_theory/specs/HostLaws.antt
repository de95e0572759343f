-- The laws of running hosts, as the contracts of functions name them.
use Rattle.std.specs.Prelude.{◌≡◌, ◌==◌, ℕ, List, [], ◌∷◌, ◌++◌, reverse, take, filter, if◌then◌else◌}
use Rattle.run_theory.specs.Machine.{IsStamped}
use Rattle.run_theory.specs.TestMachine.{TestMachine, machine}
use Rattle.run_theory.specs.Links.{sent_by, sent, is_from, taken}
use Rattle.run_theory.specs.Runs.{AreLogs, IsWithin}
use Rattle.run_theory.specs.Orders.{LogsRun}
use Rattle.run_theory.specs.Cuts.{IsCut}
use Rattle.run_theory.specs.Hosts.{AreKept}

-- what running hosts and links keep are right logs
abbrev pub HostsKeepRightLogs : (E X : Type 0) → Type 0
HostsKeepRightLogs E X = (t : TestMachine E X) (own : ℕ → List E) (puts takes : ℕ → ℕ → List X)
    → AreKept (machine t) own puts takes → AreLogs (machine t) (λ h. reverse (own h))

-- and so a run, in merged order
abbrev pub HostsRun : (E X : Type 0) → Type 0
HostsRun E X =
    (t : TestMachine E X) → IsStamped (machine t) → (n : ℕ) (own : ℕ → List E) (puts takes : ℕ → ℕ → List X)
    → IsWithin n own → AreKept (machine t) own puts takes
    → LogsRun (machine t) n (λ h. reverse (own h))

-- in the order of time a step adds what it sends to a host behind all that was sent to it before
abbrev pub SendsBehind : (E X : Type 0) → Type 0
SendsBehind E X =
    (t : TestMachine E X) (i j : ℕ) (log : List E) (e : E)
    → reverse (sent (machine t) i j (e ∷ log))
    ≡ reverse (sent (machine t) i j log) ++ filter (λ x. t.to x == j) (sent_by (machine t) i log e)

-- and adds the signal that it took, if a link gave it, behind all that was taken from that link
abbrev pub TakesBehind : (E X : Type 0) → Type 0
TakesBehind E X =
    (t : TestMachine E X) (i : ℕ) (log : List E) (e : E)
    → reverse (taken (machine t) i (e ∷ log))
    ≡ reverse (taken (machine t) i log) ++ (if is_from (machine t) i e then t.signal e ∷ [] else [])

-- of each list the steps up to a length, turned round, are a cut
abbrev pub LengthsCutLogs : (E : Type 0) → Type 0
LengthsCutLogs E =
    (own : ℕ → List E) (lengths : ℕ → ℕ) → IsCut (λ h. reverse (take (lengths h) (own h))) (λ h. reverse (own h))

-- and all right logs are kept by some hosts and links: those lists promise no more than right logs do
abbrev pub RightLogsAreKept : (E X : Type 0) → Type 0
RightLogsAreKept E X =
    (t : TestMachine E X) (logs : ℕ → List E) → AreLogs (machine t) logs
    → (puts : ℕ → ℕ → List X) × (takes : ℕ → ℕ → List X) × AreKept (machine t) (λ h. reverse (logs h)) puts takes
