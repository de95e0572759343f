-- That logs say whose they are.
use Rattle.std.specs.Prelude.{◌≡◌, ◌<◌, ℕ, List, length, slice_index_or}
use Rattle.sig_core.specs.declared.log.HostLog.{HostLog}
use Rattle.world_core.specs.Hosts.{hosts}
use Rattle.world_core.specs.Right.{IsLabelled}
use Rattle.world_core.specs.Start.{Start}
use Rattle.world_core.specs.World.{no_steps}

-- one log for each host, in the order of hosts, and each says which host's it is, and since when that is there
pub record AreLabelled (start : Start) (logs : List HostLog) : Type 0 where
  pub one_each : length logs ≡ hosts start
  pub labels : (h : ℕ) → h < hosts start → IsLabelled start h (slice_index_or logs h (no_steps 0))
