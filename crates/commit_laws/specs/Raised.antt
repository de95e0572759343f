-- The coordinator of each full member of the current view is fenced at it.
use Rattle.std.specs.Prelude.{◌≤◌, ℕ, List}
use Rattle.run_theory.specs.Lists.{IsIn}
use Rattle.sig_core.specs.declared.member.Member.{Member}
use Rattle.world_core.specs.Start.{Start}
use Rattle.world_core.specs.Steps.{HostStep}
use Rattle.moment_laws.specs.Moments.{IsMoment, current, logs_of}
use Rattle.moment_laws.specs.Places.{tc_of}
use Rattle.request_laws.specs.Blocks.{coordinator_after}

abbrev pub CurrentIsFenced : Type 0
CurrentIsFenced =
    (start : Start) (all : ℕ → List HostStep) (es : List HostStep) → IsMoment start all es → (member : Member)
    → IsIn member (current start (logs_of start es)).full
    → (current start (logs_of start es)).number
    ≤ (coordinator_after start member (logs_of start es (tc_of start member))).fence
