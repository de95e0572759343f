-- Who is given up and holds a lock, where nothing is under way.
use Rattle.std.specs.Prelude.{◌≡◌, ◌≤◌, ◌<◌, ℕ, true, List, length}
use Rattle.run_theory.specs.Lists.{IsIn}
use Rattle.sig_core.specs.declared.member.TxId.{TxId}
use Rattle.sig_core.specs.Work.{work_key}
use Rattle.row_locks.specs.Holders.{holds}
use Rattle.lqh_block.specs.declared.request.Request.{Request}
use Rattle.node_core.specs.Blocks.{lqh_of}
use Rattle.world_core.specs.Machine.{after}
use Rattle.world_core.specs.Start.{Start}
use Rattle.world_core.specs.Steps.{Addressed, HostStep}
use Rattle.run_laws.specs.GivenUp.{is_given_up}
use Rattle.run_laws.specs.Routes.{replicas}
use Rattle.run_laws.specs.Transit.{IsRun, logs_of}
use Rattle.order_laws.specs.LetGo.{lock_at_place}
use Rattle.order_laws.specs.Still.{IsStill}

-- a request of the transaction for the key waits at a host, for this place of its chain or one behind it
pub record WaitsFrom (start : Start) (logs : ℕ → List HostStep) (tx : TxId) (key : List ℕ) (at : ℕ) : Type 0 where
  pub host : ℕ
  pub request : Request
  pub inside : IsIn request (lqh_of (after start host (logs host))).waiting
  pub own : request.tx ≡ tx
  pub on : work_key request.work ≡ key
  pub from : at ≤ request.at

-- With nothing under way a transaction that is given up, and holds the lock at a place of a key's chain, waits itself
-- for that place of the key or one behind it: each abort was taken.
abbrev pub GivenUpHoldersWait : Type 0
GivenUpHoldersWait =
    (start : Start) (es : List HostStep) (xs : List Addressed) (key : List ℕ) (at : ℕ) (tx : TxId) → IsRun start es
    → IsStill start es xs → at < length (replicas start key) → is_given_up start (logs_of start es) tx ≡ true
    → holds tx (lock_at_place start (logs_of start es) key at).holders ≡ true
    → WaitsFrom start (logs_of start es) tx key at
