-- Behind the first place of a chain all that hold or wait for a lock do so to write.
use Rattle.std.specs.Prelude.{◌≡◌, ◌<◌, ◌+◌, ℕ, true, false, List, length}
use Rattle.sig_core.specs.declared.member.TxId.{TxId}
use Rattle.row_locks.specs.Holders.{holds}
use Rattle.row_locks.specs.Queues.{waits}
use Rattle.world_core.specs.Start.{Start}
use Rattle.world_core.specs.Steps.{HostStep}
use Rattle.run_laws.specs.Routes.{replicas}
use Rattle.run_laws.specs.Transit.{IsRun, logs_of}
use Rattle.order_laws.specs.LetGo.{lock_at_place}

-- who holds the lock of a key at a place of its chain behind the first doesn't wait for it there: nobody is raised
abbrev pub HoldersBehindDontWait : Type 0
HoldersBehindDontWait =
    (start : Start) (es : List HostStep) (key : List ℕ) (at : ℕ) (tx : TxId) → IsRun start es
    → at + 1 < length (replicas start key)
    → holds tx (lock_at_place start (logs_of start es) key (at + 1)).holders ≡ true
    → waits tx (lock_at_place start (logs_of start es) key (at + 1)).queue ≡ false
