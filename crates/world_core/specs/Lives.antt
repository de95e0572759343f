-- Lives of a session: their logs, and the first one.
use Rattle.std.specs.Prelude.{ℕ, List, []}
use Rattle.sig_core.specs.declared.log.HostLog.{HostLog}
use Rattle.sig_core.specs.declared.log.Life.{Life}
use Rattle.world_core.specs.World.{logs_at}
use Rattle.world_core.specs.Steps.{HostStep}

-- the log of each host, the newest step first
abbrev pub logs_of : Life → ℕ → List HostStep
logs_of life = logs_at life.logs

-- the first life of a fresh world, with these logs
abbrev pub fresh_life : List HostLog → Life
fresh_life logs = record { start_epoch = 0; start_rows = []; logs = logs; slots = [] }
