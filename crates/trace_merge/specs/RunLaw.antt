-- That the merge of right logs is a run.
use Rattle.std.specs.Prelude.{◌≡◌, ◌<◌, ℕ, List, length, map, reverse, slice_index_or}
use Rattle.run_theory.specs.Orders.{HasLogs}
use Rattle.run_theory.specs.Runs as runs
use Rattle.sig_core.specs.declared.log.HostLog.{HostLog}
use Rattle.sig_core.specs.declared.log.LogStep.{LogStep}
use Rattle.world_core.specs.Start.{Start}
use Rattle.world_core.specs.Steps.{HostStep}
use Rattle.world_core.specs.World.{logs_at, no_steps, of_host, steps_of}
use Rattle.world_views.specs.Machine.{machine}
use Rattle.trace_merge.specs.declared.run.RunStep.{RunStep}

-- each log says whose it is: that of the host whose number is its place
pub record AreNumbered (logs : List HostLog) : Type 0 where
  pub hosts : (h : ℕ) → h < length logs → (slice_index_or logs h (no_steps 0)).host ≡ record { 0 = h }

-- the step at a place of the logs; where there is none, this one
abbrev pub event_at : List HostLog → LogStep → RunStep → HostStep
event_at logs none p = of_host p.host.0 (slice_index_or (steps_of logs p.host.0) p.step none)

-- the steps at these places, the last one first
abbrev pub events_of : List HostLog → LogStep → List RunStep → List HostStep
events_of logs none run = reverse (map (event_at logs none) run)

-- these events are a run, and leave these logs
pub record IsRunOf (start : Start) (logs : List HostLog) (es : List HostStep) : Type 0 where
  pub run : runs.Run (machine start) es
  pub leaves : HasLogs (machine start) es (logs_at logs)
