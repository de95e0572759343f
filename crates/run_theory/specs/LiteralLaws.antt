-- The machine with channels and the machine told by logs are the same, as the contract of a function names it.
use Rattle.std.specs.Prelude.{◌↔◌, List}
use Rattle.run_theory.specs.Machine.{IsStamped}
use Rattle.run_theory.specs.TestMachine.{TestMachine, machine}
use Rattle.run_theory.specs.Runs.{Run}
use Rattle.run_theory.specs.Literal.{Admits}

-- both admit the same events, and so the same logs
abbrev pub ChannelsAdmitRuns : (E X : Type 0) → Type 0
ChannelsAdmitRuns E X =
    (t : TestMachine E X) → IsStamped (machine t) → (es : List E) → Admits (machine t) es ↔ Run (machine t) es
