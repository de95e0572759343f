-- The committed rows of a host.
use Rattle.std.specs.Prelude.{ℕ, List, Option}
use Rattle.sig_core.specs.Rows.{row_of}
use Rattle.node_core.specs.declared.host.Host.{Host}
use Rattle.node_core.specs.Blocks.{lqh_of}

-- the committed row of the key; a host that runs no rows has none
unfoldable pub row_at : Host → List ℕ → Option (List ℕ)
row_at host key = row_of (lqh_of host).rows key
