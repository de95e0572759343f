-- Steps and signals of the machine, each with its host.
use Rattle.std.specs.Prelude.{ℕ}
use Rattle.sig_core.specs.declared.log.LogStep.{LogStep}
use Rattle.sig_core.specs.declared.signal.Signal.{Signal}

-- a step of a host
pub record HostStep : Type 0 where
  pub host : ℕ
  pub step : LogStep

-- a signal on its way to a host
pub record Addressed : Type 0 where
  pub to : ℕ
  pub signal : Signal
