-- The rows of a cluster that may fail, after these logs.
use Rattle.std.specs.Prelude.{ℕ, List, Option, None}
use Rattle.node_views.specs.declared.parts.Parts.{Parts}
use Rattle.node_views.specs.declared.parts.Parts.TheVariants.{Ldm}
use Rattle.sig_core.specs.Rows.{row_of}
use Rattle.world_core.specs.Hosts.{rows_host}
use Rattle.world_core.specs.Start.{Start}
use Rattle.world_core.specs.Steps.{HostStep}
use Rattle.world_views.specs.Machine.{after}

-- the committed row of the key; a part that has no rows has none
abbrev pub row_at : Parts → List ℕ → Option (List ℕ)
row_at (Ldm p) key = row_of p.replica.lqh.rows key
row_at parts key = None

-- the committed row that a node that began the life has of a key
abbrev pub row_in : Start → (ℕ → List HostStep) → ℕ → List ℕ → Option (List ℕ)
row_in start logs node key = row_at (after start (rows_host start node) (logs (rows_host start node))).parts key
