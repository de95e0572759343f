-- A host doesn't look at the bytes that a journal has to give out.
use Rattle.std.proofs.Common.{◌≡◌, ◌∙◌, ℕ, ◌==◌, Bool, true, false, List, ◌++◌, refl, ap}
use Rattle.std.specs.Prelude.{Option, None, Some, remove, slice_get}
use Rattle.sig_core.specs.declared.member.Member.{Member}
use Rattle.sig_core.specs.declared.member.TxId.{TxId}
use Rattle.sig_core.specs.declared.op.Answer.{Answer}
use Rattle.sig_core.specs.declared.op.Answer.TheVariants as answer
use Rattle.sig_core.specs.declared.op.Op.{Op}
use Rattle.sig_core.specs.declared.place.BlockId.{BlockId}
use Rattle.sig_core.specs.declared.place.BlockId.TheVariants as block
use Rattle.sig_core.specs.declared.redo.Redo.TheVariants as redo
use Rattle.sig_core.specs.declared.signal.Body.{Body}
use Rattle.sig_core.specs.declared.signal.Body.TheVariants.{Host as AnyHost, Client, Chain}
use Rattle.sig_core.specs.declared.signal.Signal.{Signal}
use Rattle.sig_core.specs.declared.signal.chain.ChainSignal.TheVariants.{LqhKeyReq, Commit, Complete, Abort}
use Rattle.sig_core.specs.declared.signal.chain.RowWork.{RowWork}
use Rattle.sig_core.specs.declared.signal.chain.RowWork.TheVariants.{Operate, Store}
use Rattle.sig_core.specs.declared.signal.client.ClientSignal.TheVariants.{TcCommitAck, LqhWaitReq, DumpReq}
use Rattle.sig_core.specs.declared.signal.host.HostSignal.TheVariants.{Round, Continue}
use Rattle.sig_core.specs.declared.signal.host.Work.TheVariants as work
use Rattle.sig_core.specs.Op.{answer_to, image_of, key_of}
use Rattle.sig_core.specs.Rows.{is_full, record_state, seen}
use Rattle.sig_core.specs.Step.{Step}
use Rattle.frag_map.specs.Fragment.{frag_of}
use Rattle.row_locks.specs.declared.mode.Lock.{Lock}
use Rattle.row_locks.specs.declared.mode.Lock.TheVariants.{Granted, Queued}
use Rattle.row_locks.specs.Rounds.{expired}
use Rattle.row_locks.specs.Rows.{Served}
use Rattle.row_locks.specs.Tables.{ahead_at, unwaited_at}
use Rattle.lqh_block.specs.Abort as abort
use Rattle.lqh_block.specs.Commit as commit
use Rattle.lqh_block.specs.Complete as complete
use Rattle.lqh_block.specs.declared.request.Request.{Request}
use Rattle.lqh_block.specs.Dump as dump
use Rattle.lqh_block.specs.Expire as expire
use Rattle.lqh_block.specs.Lqh.{lqh_table}
use Rattle.lqh_block.specs.Operate as operate
use Rattle.lqh_block.specs.State.{LqhState, in_storage, storage_of, unlocked, with_lock, with_waiting}
use Rattle.lqh_block.specs.Storage as storage
use Rattle.lqh_block.specs.Storage.{StorageState}
use Rattle.lqh_block.specs.Wait as wait
use Rattle.node_core.specs.declared.host.Host.{Host}
use Rattle.node_core.specs.declared.host.Host.TheVariants.{Shell, Main, Tc, Ldm}
use Rattle.node_core.specs.Row.{in_ldm, ldm_row, row}
use Rattle.level_laws.specs.Levels.{host_sized, lqh_sized, outlet_at}
use Rattle.level_laws.proofs.Outlets.{behind_level}

-- a step with another state
abbrev pub onto : {A : Type 0} → (A → A) → Step A → Step A
onto f step = record { state = f step.state; effects = step.effects }

abbrev storage_sized : StorageState → StorageState
storage_sized s = storage.storage s.rows s.journal (outlet_at s.outlet) s.shape

-- the rows and the journal
store_sized : (s : StorageState) (tx : TxId) (key : List ℕ) (image : Option (List ℕ)) (chain : List Member) (at : ℕ)
    → storage.store_row (storage_sized s) tx key image chain at
    ≡ onto storage_sized (storage.store_row s tx key image chain at)
unfolding storage.store_row
store_sized s tx key image chain at =
    by (storage.is_log_full s.journal (storage.need_of tx key image)) (is_full s.rows key)
  where
    by : (log full : Bool) → storage.store_if (storage_sized s) tx key image chain at log full
        ≡ onto storage_sized (storage.store_if s tx key image chain at log full)
    by true full = refl
    by false true = refl
    by false false = λ i. record {
      state = record (storage.prepared_in s tx key image) {
        outlet = behind_level s.outlet (redo.Prepare tx (frag_of s.shape key) key image) i;
      };
      effects = (storage.store_if s tx key image chain at false false).effects;
    }

operate_sized : (s : StorageState) (tx : TxId) (op : Op) (chain : List Member) (at : ℕ) (a : Answer)
    → storage.operate_by (storage_sized s) tx op chain at a
    ≡ onto storage_sized (storage.operate_by s tx op chain at a)
operate_sized s tx op chain at answer.Done = store_sized s tx (key_of op) (image_of op) chain at
operate_sized s tx op chain at (answer.Found value) = refl
operate_sized s tx op chain at answer.Missing = refl
operate_sized s tx op chain at answer.E626 = refl
operate_sized s tx op chain at answer.E630 = refl

perform_sized : (s : StorageState) (r : Request)
    → storage.perform (storage_sized s) r ≡ onto storage_sized (storage.perform s r)
unfolding storage.perform
perform_sized s r = by r.work
  where
    by : (what : RowWork) → storage.perform_by (storage_sized s) r.tx r.chain r.at what
        ≡ onto storage_sized (storage.perform_by s r.tx r.chain r.at what)
    by (Operate op) = operate_sized s r.tx op r.chain r.at (answer_to op (seen s.rows r.tx (key_of op)))
    by (Store key image) = store_sized s r.tx key image r.chain r.at

-- requests
performed_sized : (s : LqhState) (r : Request)
    → operate.performed (lqh_sized s) r ≡ onto lqh_sized (operate.performed s r)
performed_sized s r = ap (in_storage (lqh_sized s)) (perform_sized (storage_of s) r)

request_sized : (s : LqhState) (r : Request)
    → operate.request_row (lqh_sized s) r ≡ onto lqh_sized (operate.request_row s r)
unfolding operate.request_row
request_sized s r = by (operate.asking s r).answer
  where
    by : (a : Lock) → operate.asked_by (lqh_sized (operate.asked_for s r)) r a
        ≡ onto lqh_sized (operate.asked_by (operate.asked_for s r) r a)
    by Granted = performed_sized (operate.asked_for s r) r
    by (Queued ahead) = refl

granted_sized : (s : LqhState) → operate.granted_row (lqh_sized s) ≡ onto lqh_sized (operate.granted_row s)
unfolding operate.granted_row
granted_sized s = by (operate.first_granted s.locks s.waiting)
  where
    value : (at : ℕ) (r : Option Request) → operate.granted_value (lqh_sized s) at r
        ≡ onto lqh_sized (operate.granted_value s at r)
    value at None = refl
    value at (Some r) = λ i.
        let step = performed_sized (with_waiting s (remove s.waiting at)) r i in
        record {
          state = step.state;
          effects = record {
            sends = step.effects.sends ++ operate.more_granted (with_waiting s (remove s.waiting at));
            marks = step.effects.marks;
          };
        }

    by : (at : Option ℕ) → operate.granted_by (lqh_sized s) at ≡ onto lqh_sized (operate.granted_by s at)
    by None = refl
    by (Some at) = value at (slice_get s.waiting at)

-- commits
commit_sized : (s : LqhState) (tx : TxId) (key : List ℕ) (epoch : ℕ) (chain : List Member) (at : ℕ)
    → commit.commit_row (lqh_sized s) tx key epoch chain at
    ≡ onto lqh_sized (commit.commit_row s tx key epoch chain at)
unfolding commit.commit_row storage.committed_in
commit_sized s tx key epoch chain at =
    ap (λ after. commit.told after tx key epoch chain at had) (applied had)
    ∙ told (commit.applied s tx key epoch had) (at == 0)
  where
    had : Option Bool
    had = record_state s.rows tx key

    applied : (was : Option Bool)
        → commit.applied (lqh_sized s) tx key epoch was ≡ lqh_sized (commit.applied s tx key epoch was)
    applied None = refl
    applied (Some true) = refl
    applied (Some false) = λ i. record (commit.applied s tx key epoch (Some false)) {
      outlet = behind_level s.outlet (redo.Commit tx epoch key) i;
    }

    told : (after : LqhState) (last : Bool) → commit.told_if (lqh_sized after) tx key epoch chain at had last
        ≡ onto lqh_sized (commit.told_if after tx key epoch chain at had last)
    told after true = refl
    told after false = refl

-- aborts
unasked_sized : (s : LqhState) (at : Option ℕ)
    → abort.unasked_by (lqh_sized s) at ≡ lqh_sized (abort.unasked_by s at)
unasked_sized s None = refl
unasked_sized s (Some at) = refl

given_up_sized : (s : LqhState) (tx : TxId) (key : List ℕ) (had : Option Bool)
    → abort.given_up (lqh_sized s) tx key had ≡ lqh_sized (abort.given_up s tx key had)
unfolding storage.aborted_in
given_up_sized s tx key None = refl
given_up_sized s tx key (Some true) = refl
given_up_sized s tx key (Some false) = λ i. record (abort.given_up s tx key (Some false)) {
  outlet = behind_level s.outlet (redo.Abort tx key) i;
}

abort_sized : (s : LqhState) (tx : TxId) (key : List ℕ)
    → abort.abort_row (lqh_sized s) tx key ≡ onto lqh_sized (abort.abort_row s tx key)
unfolding abort.abort_row
abort_sized s tx key = λ i. record {
  state = unlocked (given_up (abort.waits_at s tx key) i) tx key;
  effects = (abort.abort_row s tx key).effects;
}
  where
    had : Option Bool
    had = record_state s.rows tx key

    given_up : (at : Option ℕ) → abort.given_up (abort.unasked_by (lqh_sized s) at) tx key had
        ≡ lqh_sized (abort.given_up (abort.unasked_by s at) tx key had)
    given_up at =
        ap (λ after. abort.given_up after tx key had) (unasked_sized s at)
        ∙ given_up_sized (abort.unasked_by s at) tx key had

-- waits that stood too long
expire_sized : (s : LqhState) → expire.expire_row (lqh_sized s) ≡ onto lqh_sized (expire.expire_row s)
unfolding expire.expire_row
expire_sized s = by (expired s.locks)
  where
    one : (tx : TxId) (key : List ℕ) (served : Served)
        → expire.expiring (lqh_sized s) tx key served ≡ onto lqh_sized (expire.expiring s tx key served)
    one tx key served = λ i. record {
      state = unasked_sized (with_lock s key served) (abort.waits_at (with_lock s key served) tx key) i;
      effects = (expire.expiring s tx key served).effects;
    }

    by : (w : Option (TxId × List ℕ)) → expire.expire_by (lqh_sized s) w ≡ onto lqh_sized (expire.expire_by s w)
    by None = refl
    by (Some w) = one w.0 w.1 (unwaited_at s.locks w.1 w.0)

-- what a transaction waits for
wait_sized : (s : LqhState) (tx : TxId) (key : List ℕ)
    → wait.wait_row (lqh_sized s) tx key ≡ onto lqh_sized (wait.wait_row s tx key)
unfolding wait.wait_row
wait_sized s tx key = by (ahead_at s.locks key tx)
  where
    by : (ahead : Option TxId) → wait.wait_by (lqh_sized s) tx ahead ≡ onto lqh_sized (wait.wait_by s tx ahead)
    by None = refl
    by (Some ahead) = refl

-- whatever the rows take
table_sized : (s : LqhState) (body : Body) → lqh_table (lqh_sized s) body ≡ onto lqh_sized (lqh_table s body)
unfolding complete.complete_row dump.dump_row wait.acknowledged
table_sized s (Chain (LqhKeyReq tx what chain at)) =
    request_sized s (record { tx = tx; work = what; chain = chain; at = at })
table_sized s (AnyHost (Continue work.Granted at)) = granted_sized s
table_sized s (Chain (Commit tx key epoch chain at)) = commit_sized s tx key epoch chain at
table_sized s (Chain (Complete tx key chain at)) = refl
table_sized s (Chain (Abort tx key)) = abort_sized s tx key
table_sized s (Client (TcCommitAck tx)) = refl
table_sized s (Client (LqhWaitReq tx key)) = wait_sized s tx key
table_sized s (Client (DumpReq at)) = refl
table_sized s (AnyHost Round) = expire_sized (expire.aged s)
table_sized s (AnyHost (Continue work.Expired at)) = expire_sized s
table_sized s body = refl

ldm_sized : (s : LqhState) (at : BlockId) (x : Signal)
    → ldm_row (lqh_sized s) at x ≡ onto lqh_sized (ldm_row s at x)
unfolding ldm_row
ldm_sized s block.Lqh x = table_sized s x.body
ldm_sized s _ x = refl

pub row_sized : (s : Host) (x : Signal) → row (host_sized s) x ≡ onto host_sized (row s x)
unfolding row
row_sized (Shell s) x = refl
row_sized (Main m) x = refl
row_sized (Tc p) x = refl
row_sized (Ldm s) x = ap in_ldm (ldm_sized s x.to.block x)

-- what doesn't look at them is so of a host whatever they say
pub sized_same : {A : Type 0} (f : Host → A) → ((s : LqhState) → f (Ldm (lqh_sized s)) ≡ f (Ldm s)) → (s : Host)
    → f (host_sized s) ≡ f s
sized_same f rows (Shell s) = refl
sized_same f rows (Main m) = refl
sized_same f rows (Tc p) = refl
sized_same f rows (Ldm s) = rows s
