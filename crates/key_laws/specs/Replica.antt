-- One key of a replica: what the state of the rows is there, and what each signal does to it.
use Rattle.std.specs.Prelude.{◌==◌, ◌||◌, not, if◌then◌else◌, ℕ, Bool, true, false, List, [], ◌∷◌, ◌++◌, filter, map}
use Rattle.std.specs.Prelude.{Option, None, Some}
use Rattle.sig_core.specs.declared.member.TxId.{TxId}
use Rattle.sig_core.specs.declared.op.Answer.{Answer}
use Rattle.sig_core.specs.declared.op.Answer.TheVariants.{Done}
use Rattle.sig_core.specs.declared.op.Op.{Op}
use Rattle.sig_core.specs.declared.rows.PendingRecord.{PendingRecord}
use Rattle.sig_core.specs.declared.signal.Body.{Body}
use Rattle.sig_core.specs.declared.signal.Body.TheVariants.{Host, Chain}
use Rattle.sig_core.specs.declared.signal.chain.ChainSignal.TheVariants.{LqhKeyReq, Commit, Complete, Abort}
use Rattle.sig_core.specs.declared.signal.chain.RowWork.{RowWork}
use Rattle.sig_core.specs.declared.signal.chain.RowWork.TheVariants.{Operate, Store}
use Rattle.sig_core.specs.declared.signal.host.HostSignal.TheVariants.{Round, Continue}
use Rattle.sig_core.specs.declared.signal.host.Work.TheVariants.{Granted, Expired}
use Rattle.sig_core.specs.Op.{answer_to, image_of, key_of}
use Rattle.sig_core.specs.Rows.{RowsState, is_full, is_on, prepared, row_of}
use Rattle.sig_core.specs.Same.{same_key, same_tx}
use Rattle.row_locks.specs.declared.mode.Lock as lock
use Rattle.row_locks.specs.declared.mode.Lock.TheVariants as grant
use Rattle.row_locks.specs.Queues.{waits}
use Rattle.row_locks.specs.Rounds.{expired}
use Rattle.row_locks.specs.Rows.{RowLock, asked, grown_old, released, unwaited}
use Rattle.row_locks.specs.Tables.{lock_at}
use Rattle.lqh_block.specs.declared.request.Request.{Request}
use Rattle.lqh_block.specs.Expire.{aged}
use Rattle.lqh_block.specs.Operate.{is_granted}
use Rattle.lqh_block.specs.State.{LqhState, storage_of}
use Rattle.lqh_block.specs.Storage.{StorageState, is_log_full, need_of}
use Rattle.sig_core.specs.Work.{work_image, work_key}
use Rattle.lqh_block.specs.Work.{work_mode}
use Rattle.sig_core.specs.Firsts.{drop_first, first}
use Rattle.key_laws.specs.Records.{as_committed, committed_row, edited, found, if_committed, seen_by, stored}
use Rattle.key_laws.specs.Records.{unless_committed, without_epoch}

-- the row of a key, and the records on it, the oldest first. Of epochs nothing is said here
pub record Cell : Type 0 where
  pub row : Option (List ℕ)
  pub pending : List PendingRecord

abbrev pub cell_at : List ℕ → RowsState → Cell
cell_at key s = record { row = row_of s key; pending = map without_epoch (filter (is_on key) s.pending) }

-- an image is stored, unless it is refused
abbrev pub storing : Cell → TxId → List ℕ → Option (List ℕ) → Bool → Cell
storing c tx key image true = c
storing c tx key image false = record { row = c.row; pending = stored (prepared tx key image) c.pending }

-- an operation is performed, with this answer
abbrev pub operated : Cell → TxId → Op → Bool → Answer → Cell
operated c tx op refused Done = storing c tx (key_of op) (image_of op) refused
operated c tx op refused answer = c

abbrev pub worked : Cell → TxId → Bool → RowWork → Cell
worked c tx refused (Operate op) = operated c tx op refused (answer_to op (seen_by c.row (found tx c.pending)))
worked c tx refused (Store key image) = storing c tx key image refused

-- the transaction's record is committed, completed, aborted
abbrev pub committing : Cell → TxId → Cell
committing c tx = record { row = committed_row c.row (found tx c.pending); pending = edited as_committed tx c.pending }

abbrev pub completing : Cell → TxId → Cell
completing c tx = record { row = c.row; pending = edited unless_committed tx c.pending }

abbrev pub aborting : Cell → TxId → Cell
aborting c tx = record { row = c.row; pending = edited if_committed tx c.pending }

-- one key of a replica: also its lock, and the requests for it whose lock wasn't granted when they came
pub record Replica : Type 0 where
  pub cell : Cell
  pub lock : RowLock
  pub waiting : List Request

-- the request is for the key
abbrev pub asks_for : List ℕ → Request → Bool
asks_for key q = same_key (work_key q.work) key

abbrev pub at_key : List ℕ → LqhState → Replica
at_key key s = record {
  cell = cell_at key s.rows;
  lock = lock_at s.locks key;
  waiting = filter (asks_for key) s.waiting;
}

-- What happens to one key of a replica. A request and the serving of one may be refused, where the journal or the rows
-- are full.
pub data Event : Type 0 where
  rests : Event
  asks : Request → Bool → Event
  serves : Bool → Event
  -- at the first place of its chain or behind it
  commits : TxId → Bool → Event
  completes : TxId → Event
  aborts : TxId → Event
  -- a wait ends that stood too long
  expires : TxId → Event
  -- a round of time passes, after which a wait may end
  ages : Option TxId → Event

-- a request comes, and the lock answers it
abbrev pub asked_by : Replica → RowLock → Request → Bool → lock.Lock → Replica
asked_by r now q refused grant.Granted = record {
  cell = worked r.cell q.tx refused q.work;
  lock = now;
  waiting = r.waiting;
}
asked_by r now q refused (grant.Queued ahead) = record { cell = r.cell; lock = now; waiting = r.waiting ++ q ∷ [] }

abbrev pub after_request : Replica → Request → Bool → Replica
after_request r q refused =
    asked_by r (asked r.lock q.tx (work_mode q.work)).lock q refused (asked r.lock q.tx (work_mode q.work)).answer

-- the request's transaction waits no more
abbrev pub is_let_in : RowLock → Request → Bool
is_let_in now q = not (waits q.tx now.queue)

-- the first request that is let in is performed
abbrev pub served_by : Replica → Bool → Option Request → Replica
served_by r refused None = r
served_by r refused (Some q) = record {
  cell = worked r.cell q.tx refused q.work;
  lock = r.lock;
  waiting = drop_first (is_let_in r.lock) r.waiting;
}

-- the lock is let go of, or its queue loses a wait
abbrev pub letting_go : Replica → Cell → TxId → Replica
letting_go r c tx = record { cell = c; lock = (released r.lock tx).lock; waiting = r.waiting }

abbrev pub is_by : TxId → Request → Bool
is_by tx q = same_tx q.tx tx

abbrev pub expiring : Replica → TxId → Replica
expiring r tx = record { cell = r.cell; lock = (unwaited r.lock tx).lock; waiting = drop_first (is_by tx) r.waiting }

abbrev pub ageing : Replica → Replica
ageing r = record { cell = r.cell; lock = grown_old r.lock; waiting = r.waiting }

-- the key after an event
abbrev pub key_after : Event → Replica → Replica
key_after rests r = r
key_after (asks q refused) r = after_request r q refused
key_after (serves refused) r = served_by r refused (first (is_let_in r.lock) r.waiting)
key_after (commits tx true) r = letting_go r (committing r.cell tx) tx
key_after (commits tx false) r = record { cell = committing r.cell tx; lock = r.lock; waiting = r.waiting }
key_after (completes tx) r = letting_go r (completing r.cell tx) tx
key_after (aborts tx) r = letting_go (record {
  cell = r.cell;
  lock = r.lock;
  waiting = drop_first (is_by tx) r.waiting;
}) (aborting r.cell tx) tx
key_after (expires tx) r = expiring r tx
key_after (ages None) r = ageing r
key_after (ages (Some tx)) r = expiring (ageing r) tx

-- the journal or the rows are too full for what the request stores
abbrev pub is_refused : StorageState → Request → Bool
is_refused s q =
    is_log_full s.journal (need_of q.tx (work_key q.work) (work_image q.work)) || is_full s.rows (work_key q.work)

-- an event of one key is none of another
abbrev pub if_on : List ℕ → List ℕ → Event → Event
if_on own key event = if same_key own key then event else rests

abbrev pub serves_if : List ℕ → LqhState → Option Request → Event
serves_if key s None = rests
serves_if key s (Some q) = if_on (work_key q.work) key (serves (is_refused (storage_of s) q))

abbrev pub expires_if : List ℕ → Option (TxId × List ℕ) → Event
expires_if key None = rests
expires_if key (Some wait) = if_on wait.1 key (expires wait.0)

abbrev pub expired_by : List ℕ → Option (TxId × List ℕ) → Option TxId
expired_by key None = None
expired_by key (Some wait) = if same_key wait.1 key then Some wait.0 else None

-- what a signal does to the key
abbrev pub event_at : List ℕ → LqhState → Body → Event
event_at key s (Chain (LqhKeyReq tx work chain at)) =
    if_on (work_key work) key (asks (record { tx = tx; work = work; chain = chain; at = at })
    (is_refused (storage_of s) (record { tx = tx; work = work; chain = chain; at = at })))
event_at key s (Host (Continue Granted at)) = serves_if key s (first (is_granted s.locks) s.waiting)
event_at key s (Chain (Commit tx own epoch chain at)) = if_on own key (commits tx (at == 0))
event_at key s (Chain (Complete tx own chain at)) = if_on own key (completes tx)
event_at key s (Chain (Abort tx own)) = if_on own key (aborts tx)
event_at key s (Host Round) = ages (expired_by key (expired (aged s).locks))
event_at key s (Host (Continue Expired at)) = expires_if key (expired s.locks)
event_at key s body = rests
