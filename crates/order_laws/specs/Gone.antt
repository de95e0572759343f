-- Who has let go of a key at a host, and hasn't asked for it there since.
use Rattle.std.specs.Prelude.{◌≡◌, ◌||◌, if◌then◌else◌, ℕ, Bool, true, false, List, [], ◌∷◌}
use Rattle.sig_core.specs.declared.member.TxId.{TxId}
use Rattle.sig_core.specs.Same.{same_tx}
use Rattle.row_locks.specs.Holders.{holds}
use Rattle.row_locks.specs.Queues.{waits}
use Rattle.row_locks.specs.Rows.{RowLock}
use Rattle.world_core.specs.Machine.{after}
use Rattle.world_core.specs.Start.{Start}
use Rattle.world_core.specs.Steps.{HostStep}
use Rattle.key_laws.specs.Replica.{Event, aborts, asks, commits, completes}
use Rattle.host_laws.specs.ReplicaLaws.{event_in, key_in}

-- an event by which it lets go, or asks anew; by any other one it has gone if it had
abbrev pub gone_by : TxId → Event → Bool → Bool
gone_by tx (asks q refused) was = if same_tx q.tx tx then false else was
gone_by tx (commits other true) was = same_tx other tx || was
gone_by tx (completes other) was = same_tx other tx || was
gone_by tx (aborts other) was = same_tx other tx || was
gone_by tx event was = was

-- the newest of these events in a host's log is one by which the transaction let go of the key
abbrev pub has_gone : Start → List ℕ → TxId → ℕ → List HostStep → Bool
has_gone start key tx h [] = false
has_gone start key tx h (e ∷ log) =
    gone_by tx (event_in key (after start h log) e.step.taken) (has_gone start key tx h log)

-- it neither holds the lock nor waits for it
pub record IsOut (tx : TxId) (lock : RowLock) : Type 0 where
  pub unheld : holds tx lock.holders ≡ false
  pub unwaited : waits tx lock.queue ≡ false

-- who has gone is out, after any log of any host
abbrev pub WhoHasGoneIsOut : Type 0
WhoHasGoneIsOut =
    (start : Start) (key : List ℕ) (tx : TxId) (h : ℕ) (log : List HostStep) → has_gone start key tx h log ≡ true
    → IsOut tx (key_in key (after start h log)).lock
