-- The transaction as its coordinator has it.
use Rattle.world_core.specs.Hosts.{home}
use Rattle.node_core.specs.Blocks.{tc_of}
use Rattle.std.specs.Prelude.{ℕ, List, Option}
use Rattle.world_core.specs.Steps.{HostStep}
use Rattle.sig_core.specs.declared.member.TxId.{TxId}
use Rattle.host_laws.specs.Live.{of_live}
use Rattle.tc_block.specs.declared.transaction.Transaction.{Transaction}
use Rattle.node_core.specs.declared.host.Host.{Host}
use Rattle.world_core.specs.Machine.{after}
use Rattle.world_core.specs.Start.{Start}

-- of a host's coordinator
abbrev pub of_host : TxId → Host → Option Transaction
of_host tx host = of_live tx (tc_of host).live

-- at the host of its coordinator
abbrev pub live_at : Start → (ℕ → List HostStep) → TxId → Option Transaction
live_at start logs tx = of_host tx (after start (home start tx) (logs (home start tx)))
