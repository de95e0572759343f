-- Who is given up is away from the first place of each chain, where nothing is under way.
use Rattle.std.specs.Prelude.{◌≡◌, ◌≤◌, ℕ, true, List}
use Rattle.sig_core.specs.declared.member.TxId.{TxId}
use Rattle.world_core.specs.Hosts.{first_hosts}
use Rattle.world_core.specs.Machine.{machine}
use Rattle.world_core.specs.Quiet.{IsQuiet}
use Rattle.world_core.specs.Start.{Start}
use Rattle.world_core.specs.Steps.{HostStep}
use Rattle.run_laws.specs.Circle.{at_host}
use Rattle.run_laws.specs.GivenUp.{is_given_up}
use Rattle.run_laws.specs.Routes.{primary_host}
use Rattle.run_laws.specs.Transit.{IsRun, logs_of}
use Rattle.order_laws.specs.Gone.{IsOut}

-- Where all that was sent is taken, a transaction of a node that is given up neither holds the lock of a key at its
-- primary nor waits for it: the abort was sent there behind the last request.
abbrev pub GivenUpAreOutAtFirst : Type 0
GivenUpAreOutAtFirst =
    (start : Start) (es : List HostStep) (key : List ℕ) (tx : TxId) → IsRun start es
    → IsQuiet (machine start) (first_hosts start) (logs_of start es) → 1 ≤ tx.tc → tx.tc ≤ start.shape.nodes
    → is_given_up start (logs_of start es) tx ≡ true
    → IsOut tx (at_host start (logs_of start es) key (primary_host start key)).lock
