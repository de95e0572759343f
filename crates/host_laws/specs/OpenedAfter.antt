-- Transactions that the API has open.
use Rattle.std.specs.Prelude.{ℕ, List}
use Rattle.api_block.specs.declared.opened.OpenTransaction.{OpenTransaction}
use Rattle.node_core.specs.declared.host.Host.{Host}
use Rattle.node_core.specs.Blocks.{api_of}
use Rattle.world_core.specs.Machine.{after}
use Rattle.world_core.specs.Start.{Start}
use Rattle.world_core.specs.Steps.{HostStep}

-- the transactions that a host's API was asked for and whose end isn't reported; another host has none
abbrev pub opened_in : Host → List OpenTransaction
opened_in host = (api_of host).opened

-- those of these logs
abbrev pub opened_after : Start → (ℕ → List HostStep) → List OpenTransaction
opened_after start logs = opened_in (after start 0 (logs 0))
