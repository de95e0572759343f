-- Who has let go of a key at one of its replicas.
use Rattle.std.specs.Prelude.{◌≡◌, ◌⊎◌, ◌<◌, ◌+◌, ◌||◌, ℕ, Bool, true, false, List, length, Some}
use Rattle.sig_core.specs.declared.member.TxId.{TxId}
use Rattle.sig_core.specs.Same.{same_tx}
use Rattle.row_locks.specs.Holders.{holds}
use Rattle.row_locks.specs.Queues.{waits}
use Rattle.row_locks.specs.Rows.{RowLock}
use Rattle.tc_block.specs.declared.transaction.Transaction.{Transaction}
use Rattle.tc_block.specs.Phases.{is_aborting, is_decided}
use Rattle.world_core.specs.Start.{Start}
use Rattle.world_core.specs.Steps.{HostStep}
use Rattle.run_laws.specs.Circle.{at_host, primary_along}
use Rattle.run_laws.specs.GivenUp.{is_carried_out, is_given_up}
use Rattle.run_laws.specs.Live.{live_at}
use Rattle.run_laws.specs.Routes.{replica_host, replicas}
use Rattle.run_laws.specs.Transit.{IsRun, logs_of}

-- the lock of the key at a place of its chain
abbrev pub lock_at_place : Start → (ℕ → List HostStep) → List ℕ → ℕ → RowLock
lock_at_place start logs key at = (at_host start logs key (replica_host start key at)).lock

-- a host has taken an abort or a completion of the transaction's row, or its commit at the first place of a chain
abbrev pub has_let_go : Start → (ℕ → List HostStep) → List ℕ → ℕ → TxId → Bool
has_let_go start logs key h tx = (primary_along start h key (logs h)).ended tx

-- at the next place of the key's chain a transaction waits for this one
pub record IsWaitedFor (start : Start) (logs : ℕ → List HostStep) (key : List ℕ) (at : ℕ)
    (holder waiter : TxId) : Type 0
  where
    pub inside : at + 1 < length (replicas start key)
    pub apart : same_tx holder waiter ≡ false
    pub holding : holds holder (lock_at_place start logs key (at + 1)).holders ≡ true
    pub waiting : waits waiter (lock_at_place start logs key (at + 1)).queue ≡ true

-- whom a transaction waits for at a place behind the first has let go of the key at the place in front
abbrev pub HoldersHaveLetGo : Type 0
HoldersHaveLetGo =
    (start : Start) (es : List HostStep) (key : List ℕ) (at : ℕ) (holder waiter : TxId) → IsRun start es
    → IsWaitedFor start (logs_of start es) key at holder waiter
    → has_let_go start (logs_of start es) key (replica_host start key at) holder ≡ true

-- who has let go of a key anywhere is given up, or carried out
abbrev pub WhoLetsGoIsOver : Type 0
WhoLetsGoIsOver =
    (start : Start) (es : List HostStep) (key : List ℕ) (h : ℕ) (tx : TxId) → IsRun start es
    → has_let_go start (logs_of start es) key h tx ≡ true
    → (is_given_up start (logs_of start es) tx ≡ true) ⊎ (is_carried_out start (logs_of start es) tx ≡ true)

-- Whom a transaction waits for at a place behind the first is decided or being aborted at its coordinator, where that
-- hasn't forgotten it.
abbrev pub HoldersAreEnding : Type 0
HoldersAreEnding =
    (start : Start) (es : List HostStep) (key : List ℕ) (at : ℕ) (holder waiter : TxId) (t : Transaction)
    → IsRun start es → IsWaitedFor start (logs_of start es) key at holder waiter
    → live_at start (logs_of start es) holder ≡ Some t
    → (is_decided t.phase || is_aborting t.phase) ≡ true

-- whom a transaction waits for at a place behind the second is given up
abbrev pub LaterHoldersAreGivenUp : Type 0
LaterHoldersAreGivenUp =
    (start : Start) (es : List HostStep) (key : List ℕ) (at : ℕ) (holder waiter : TxId) → IsRun start es → 0 < at
    → IsWaitedFor start (logs_of start es) key at holder waiter
    → is_given_up start (logs_of start es) holder ≡ true
