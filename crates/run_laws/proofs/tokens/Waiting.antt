-- Who waits in the queue of a key has a request for it among those that wait.
use Rattle.std.proofs.Common.{◌≡◌, ℕ, ◌≤◌, List, true}
use Rattle.sig_core.specs.declared.member.TxId.{TxId}
use Rattle.sig_core.specs.declared.signal.Body.{Body}
use Rattle.row_locks.specs.Queues.{waits}
use Rattle.lqh_block.specs.Lqh.{lqh_table}
use Rattle.lqh_block.specs.State.{LqhState}
use Rattle.host_laws.proofs.rows.Leaves.{lqh_waits}
use Rattle.host_laws.proofs.rows.Waits.{queued, waiting}

pub record WaitersAsk (s : LqhState) : Type 0 where
  pub asks : (key : List ℕ) (tx : TxId) → queued tx key s ≡ true → 1 ≤ waiting tx key s

-- a signal keeps that
pub lqh_asks : (s : LqhState) (body : Body) → WaitersAsk s → WaitersAsk (lqh_table s body).state
lqh_asks s body all = record { asks = λ key tx is. (lqh_waits tx key s body).there (all.asks key tx) is }
