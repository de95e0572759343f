-- Of a right world: a signal on its way, and a log that says whose it is.
use Rattle.std.specs.Prelude.{◌≡◌, ℕ}
use Rattle.sig_core.specs.declared.log.HostLog.{HostLog}
use Rattle.sig_core.specs.declared.signal.Signal.{Signal}
use Rattle.world_core.specs.Made.{made_stamp}
use Rattle.world_core.specs.Start.{Start}
use Rattle.world_core.specs.Steps.{Addressed}

-- a signal on a link to host j
abbrev pub arriving : ℕ → Signal → Addressed
arriving j signal = record { to = j; signal = signal }

-- the log of a host says which host's it is, and since when that is there
pub record IsLabelled (start : Start) (h : ℕ) (log : HostLog) : Type 0 where
  pub host : log.host ≡ record { 0 = h }
  pub made : log.made ≡ made_stamp start h
