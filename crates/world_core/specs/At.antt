-- The rows of the cluster, after these logs.
use Rattle.std.specs.Prelude.{ℕ, List, Option}
use Rattle.node_core.specs.Committed.{row_at}
use Rattle.world_core.specs.Hosts.{rows_host}
use Rattle.world_core.specs.Machine.{after}
use Rattle.world_core.specs.Start.{Start}
use Rattle.world_core.specs.Steps.{HostStep}

-- the committed row that a node has of a key
abbrev pub row_in : Start → (ℕ → List HostStep) → ℕ → List ℕ → Option (List ℕ)
row_in start logs node key = row_at (after start (rows_host start node) (logs (rows_host start node))) key
