-- What holds of each host, when one more step comes.
use Rattle.std.proofs.Common.{ℕ, List, ◌∷◌}
use Rattle.world_core.specs.Steps.{HostStep}
use Rattle.node_core.specs.declared.host.Host.{Host}
use Rattle.world_core.specs.Machine.{after, machine, step_after}
use Rattle.world_core.specs.Start.{Start}
use Rattle.run_laws.specs.Transit.{host_after, logs_of}
use Rattle.run_theory.proofs.EventCases.{event_each}

-- a host after one more step: its own, or another's
pub each_host : (start : Start) (R : ℕ → Host → Type 0) (es : List HostStep) (e : HostStep)
    → R e.host (step_after start e.host (logs_of start es e.host) e).state
    → ((h : ℕ) → R h (host_after start es h)) → (h : ℕ) → R h (host_after start (e ∷ es) h)
each_host start R es e own others =
    event_each (machine start) e es (λ h log. R h (after start h log)) own (λ h off. others h)
