-- Epochs never fall along the history, whatever stops and is cut off.
use Rattle.std.specs.Prelude.{◌<◌, ℕ, List}
use Rattle.world_core.specs.History.{history}
use Rattle.world_core.specs.Hosts.{hosts}
use Rattle.world_core.specs.SerialLaw.{AreEpochsOrdered}
use Rattle.world_core.specs.Entries.{entries}
use Rattle.world_core.specs.Start.{Start}
use Rattle.world_core.specs.Steps.{HostStep}
use Rattle.view_laws.specs.Runs.{AreOfCluster}

-- in the order of decisions by view, stamp and host each has no lesser epoch than those before it
abbrev pub EpochsNeverFall : Type 0
EpochsNeverFall =
    (start : Start) (logs : ℕ → List HostStep) → start.start_epoch < start.epoch → AreOfCluster start logs
    → AreEpochsOrdered (entries (hosts start) logs)

-- and so it is of those that take effect
abbrev pub EpochsOfHistoriesNeverFall : Type 0
EpochsOfHistoriesNeverFall =
    (start : Start) (logs : ℕ → List HostStep) → start.start_epoch < start.epoch → AreOfCluster start logs
    → AreEpochsOrdered (history (hosts start) logs)
