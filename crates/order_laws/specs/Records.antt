-- Who holds a lock behind the first place of a chain has a record of the key at the place in front.
use Rattle.std.specs.Prelude.{◌≡◌, ◌⊎◌, ◌<◌, ◌+◌, ◌&&◌, ◌||◌, ℕ, Bool, true, false, is_some, List, length, Some}
use Rattle.std.specs.List.{list_any}
use Rattle.sig_core.specs.declared.member.TxId.{TxId}
use Rattle.sig_core.specs.declared.op.Answer.{Answer}
use Rattle.sig_core.specs.declared.op.Op.{Op}
use Rattle.row_locks.specs.Holders.{holds}
use Rattle.tc_block.specs.declared.touched.Touched.{Touched}
use Rattle.tc_block.specs.declared.transaction.Transaction.{Transaction}
use Rattle.tc_block.specs.Abort.{is_verifying}
use Rattle.tc_block.specs.Phases.{is_decided}
use Rattle.tc_block.specs.Touched.{is_on}
use Rattle.world_core.specs.History.{is_done}
use Rattle.world_core.specs.Start.{Start}
use Rattle.world_core.specs.Steps.{HostStep}
use Rattle.key_laws.specs.OneKey.{ops_on}
use Rattle.key_laws.specs.Records.{found}
use Rattle.run_laws.specs.Circle.{at_host}
use Rattle.run_laws.specs.GivenUp.{is_given_up}
use Rattle.run_laws.specs.Live.{live_at}
use Rattle.run_laws.specs.Routes.{replica_host, replicas}
use Rattle.run_laws.specs.Transit.{IsRun, logs_of}
use Rattle.order_laws.specs.LetGo.{has_let_go, lock_at_place}

-- a host has a record of the transaction on the key, prepared or committed
abbrev pub has_record : Start → (ℕ → List HostStep) → List ℕ → ℕ → TxId → Bool
has_record start logs key h tx = is_some (found tx (at_host start logs key h).cell.pending)

-- the transaction holds the lock at the place behind this one
pub record HoldsBehind (start : Start) (logs : ℕ → List HostStep) (key : List ℕ) (at : ℕ) (tx : TxId) : Type 0 where
  pub inside : at + 1 < length (replicas start key)
  pub holding : holds tx (lock_at_place start logs key (at + 1)).holders ≡ true

-- who holds the lock at a place behind the first has a record at the place in front, or has let go of the key there
abbrev pub HoldersHaveRecords : Type 0
HoldersHaveRecords =
    (start : Start) (es : List HostStep) (key : List ℕ) (at : ℕ) (tx : TxId) → IsRun start es
    → HoldsBehind start (logs_of start es) key at tx
    → (has_record start (logs_of start es) key (replica_host start key at) tx ≡ true)
    ⊎ (has_let_go start (logs_of start es) key (replica_host start key at) tx ≡ true)

-- the transaction has written the key: one of its operations there was answered by `Done`, and it is one of the keys
-- that its coordinator completes
pub record HasWritten (key : List ℕ) (t : Transaction) : Type 0 where
  pub answered : list_any (λ (op : Op × Answer). is_done op.1) (ops_on key t.ops) ≡ true
  pub touched : list_any (λ (u : Touched). is_on key u && u.written) t.touched ≡ true

-- a transaction whose commit was asked for, and that isn't given up, has written each key whose lock it holds behind
-- the
-- first place
abbrev pub WhoCommitsHasWritten : Type 0
WhoCommitsHasWritten =
    (start : Start) (es : List HostStep) (key : List ℕ) (at : ℕ) (tx : TxId) (t : Transaction) → IsRun start es
    → is_given_up start (logs_of start es) tx ≡ false → live_at start (logs_of start es) tx ≡ Some t
    → (is_verifying t.phase || is_decided t.phase) ≡ true → HoldsBehind start (logs_of start es) key at tx
    → HasWritten key t
