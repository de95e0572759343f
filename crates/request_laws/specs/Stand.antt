-- What stands at each moment of a run in the order of views.
use Rattle.std.specs.Prelude.{ℕ, List}
use Rattle.run_theory.specs.Lists.{IsIn}
use Rattle.sig_core.specs.declared.member.Member.{Member}
use Rattle.world_core.specs.Start.{Start, made}
use Rattle.world_core.specs.Steps.{HostStep}
use Rattle.moment_laws.specs.Moments.{IsMoment, logs_of}
use Rattle.request_laws.specs.Phases.{CoordinatorStands}

abbrev pub CoordinatorsStand : Type 0
CoordinatorsStand =
    (start : Start) (all : ℕ → List HostStep) (es : List HostStep) → IsMoment start all es → (member : Member)
    → IsIn member (made start) → CoordinatorStands start member (logs_of start es)
