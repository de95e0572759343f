-- Who has come to a key at a host and hasn't let go of it there since.
use Rattle.std.specs.Prelude.{◌≡◌, ◌<◌, ℕ, Bool, true, List, [], ◌∷◌, length}
use Rattle.sig_core.specs.declared.member.TxId.{TxId}
use Rattle.world_core.specs.Machine.{after}
use Rattle.world_core.specs.Start.{Start}
use Rattle.world_core.specs.Steps.{HostStep}
use Rattle.host_laws.specs.ReplicaLaws.{event_in}
use Rattle.run_laws.specs.Circle.{at_host}
use Rattle.run_laws.specs.Routes.{replica_host, replicas}
use Rattle.run_laws.specs.Transit.{IsRun, logs_of}
use Rattle.order_laws.specs.Gone.{IsOut, gone_by}

-- it never asked for the key at the host, or has let go of it since it last did
abbrev pub is_away : Start → List ℕ → TxId → ℕ → List HostStep → Bool
is_away start key tx h [] = true
is_away start key tx h (e ∷ log) =
    gone_by tx (event_in key (after start h log) e.step.taken) (is_away start key tx h log)

-- at a place of the key's chain who is away neither holds the lock nor waits for it
abbrev pub WhoIsAwayIsOut : Type 0
WhoIsAwayIsOut =
    (start : Start) (es : List HostStep) (key : List ℕ) (at : ℕ) (tx : TxId) → IsRun start es
    → at < length (replicas start key)
    → is_away start key tx (replica_host start key at) (logs_of start es (replica_host start key at)) ≡ true
    → IsOut tx (at_host start (logs_of start es) key (replica_host start key at)).lock
