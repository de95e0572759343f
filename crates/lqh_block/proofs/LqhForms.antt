-- The forms of the steps of a node's rows, each with what it tests. What is so of each form is so of every step, and so
-- no law
-- above has to open a row.
use Rattle.std.proofs.Common.{◌≡◌, ◌==◌, ℕ, List, [], ◌∷◌, ◌++◌, Bool, true, false, refl, sym, subst}
use Rattle.std.specs.Prelude.{◌+◌, is_some, position, remove, Option, None, Some, slice_get}
use Rattle.sig_core.specs.declared.mark.Mark.TheVariants as mark
use Rattle.sig_core.specs.declared.member.Member.{Member}
use Rattle.sig_core.specs.declared.member.TxId.{TxId}
use Rattle.sig_core.specs.declared.op.Answer.{Answer}
use Rattle.sig_core.specs.declared.op.Answer.TheVariants as answer
use Rattle.sig_core.specs.declared.op.Op.{Op}
use Rattle.sig_core.specs.declared.outcome.AbortCause.TheVariants as cause
use Rattle.sig_core.specs.declared.outs.Outgoing.{Outgoing}
use Rattle.sig_core.specs.declared.signal.Body.{Body}
use Rattle.sig_core.specs.declared.signal.Body.TheVariants.{Host, Client, Chain}
use Rattle.sig_core.specs.declared.signal.chain.ChainSignal.TheVariants.{LqhKeyReq, Commit, Complete, Abort, Aborted}
use Rattle.sig_core.specs.declared.signal.chain.RowWork.{RowWork}
use Rattle.sig_core.specs.declared.signal.chain.RowWork.TheVariants.{Operate, Store}
use Rattle.sig_core.specs.declared.signal.client.ClientSignal.TheVariants.{TcCommitAck, LqhWaitReq, LqhWaitConf}
use Rattle.sig_core.specs.declared.signal.client.ClientSignal.TheVariants.{DumpReq, DumpConf}
use Rattle.sig_core.specs.declared.signal.host.HostSignal.TheVariants.{Round, Continue}
use Rattle.sig_core.specs.declared.signal.host.Work.TheVariants as work
use Rattle.sig_core.specs.Op.{answer_to, image_of, key_of}
use Rattle.sig_core.specs.Place.{client, coordinator_of, rows_of}
use Rattle.sig_core.specs.Rows.{complete_record, is_full, record_state, seen, taken}
use Rattle.sig_core.specs.Step.{Step, sending, stay, to_place}
use Rattle.sig_core.specs.Work.{work_key}
use Rattle.sig_core.proofs.Firsts.{place_by, position-cons}
use Rattle.row_locks.specs.declared.mode.Lock.{Lock}
use Rattle.row_locks.specs.declared.mode.Lock.TheVariants.{Granted, Queued}
use Rattle.row_locks.specs.Rounds.{expired}
use Rattle.row_locks.specs.Rows.{Served}
use Rattle.row_locks.specs.Tables.{ahead_at, unwaited_at}
use Rattle.lqh_block.specs.Abort as abort
use Rattle.lqh_block.specs.Commit as commit
use Rattle.lqh_block.specs.Complete as complete
use Rattle.lqh_block.specs.declared.request.Marker.{Marker}
use Rattle.lqh_block.specs.declared.request.Request.{Request}
use Rattle.lqh_block.specs.Dump as dump
use Rattle.lqh_block.specs.Expire as expire
use Rattle.lqh_block.specs.Lqh.{lqh_table}
use Rattle.lqh_block.specs.Operate as operate
use Rattle.lqh_block.specs.State.{LqhState, freed_lock, serve_granted, storage_of, unlocked, with_lock, with_markers}
use Rattle.lqh_block.specs.State.{with_rows, with_storage, with_waiting}
use Rattle.lqh_block.specs.Storage as storage
use Rattle.lqh_block.specs.Storage.{StorageState}
use Rattle.lqh_block.specs.Wait as wait
use Rattle.lqh_block.specs.Work.{is_for}

-- one signal is sent, and nothing else is done
abbrev pub saying : StorageState → Outgoing → Step StorageState
saying s o = record { state = s; effects = record { sends = o ∷ []; marks = [] } }

-- an image is prepared and marked, and one signal sent
abbrev pub preparing : StorageState → TxId → List ℕ → Option (List ℕ) → Outgoing → Step StorageState
preparing s tx key image o =
    record {
      state = storage.prepared_in s tx key image;
      effects =
          record { sends = o ∷ []; marks = mark.Prepared tx key ∷ [] };
    }

-- a request that is performed
pub record PerformForms (Q : Step StorageState → Type 0) (s : StorageState) (r : Request) : Type 0 where
  -- its image has no room in the journal, or none among the rows
  pub log_full : (used reserved need : ℕ)
      → Q (saying s (storage.refusal r.tx (work_key r.work) (cause.LogFull used reserved need)))
  pub table_full : (rows : ℕ) → Q (saying s (storage.refusal r.tx (work_key r.work) (cause.TableFull rows)))
  -- its operation reads, or fails
  pub answers : (a : Answer) → Q (saying s (storage.confirmed r.tx (work_key r.work) a))
  -- its image is prepared, and goes on to the next place of the chain, or is answered at the last
  pub passes : (image : Option (List ℕ)) (next : Member) → slice_get r.chain (r.at + 1) ≡ Some next
      → Q (preparing s r.tx (work_key r.work) image
      (to_place (rows_of next.node) (Chain (LqhKeyReq r.tx (Store (work_key r.work) image) r.chain (r.at + 1)))))
  pub ends : (image : Option (List ℕ)) → slice_get r.chain (r.at + 1) ≡ None
      → Q (preparing s r.tx (work_key r.work) image (storage.confirmed r.tx (work_key r.work) answer.Done))

module _ (Q : Step StorageState → Type 0) (s : StorageState) (r : Request) (forms : PerformForms Q s r) where
  -- an image of this key goes on
  passed : (key : List ℕ) (image : Option (List ℕ)) → work_key r.work ≡ key → (next : Option Member)
      → slice_get r.chain (r.at + 1) ≡ next
      → Q (preparing s r.tx key image (storage.passed_to r.tx key image r.chain r.at next))
  passed key image is None last = subst (λ k. Q (preparing s r.tx k image (storage.confirmed r.tx k answer.Done))) is
      (forms.ends image last)
  passed key image is (Some next) there =
      subst (λ k. Q (preparing s r.tx k image
      (to_place (rows_of next.node) (Chain (LqhKeyReq r.tx (Store k image) r.chain (r.at + 1)))))) is
      (forms.passes image next there)

  stored : (key : List ℕ) (image : Option (List ℕ)) → work_key r.work ≡ key
      → Q (storage.store_row s r.tx key image r.chain r.at)
  unfolding storage.store_row
  stored key image is = by (storage.is_log_full s.journal (storage.need_of r.tx key image)) (is_full s.rows key)
    where
      by : (log full : Bool) → Q (storage.store_if s r.tx key image r.chain r.at log full)
      by true full = subst (λ k. Q (saying s
          (storage.refusal r.tx k (cause.LogFull s.journal.used s.journal.reserved (storage.need_of r.tx key image)))))
          is (forms.log_full _ _ _)
      by false true = subst (λ k. Q (saying s (storage.refusal r.tx k (cause.TableFull (taken s.rows.places))))) is
          (forms.table_full _)
      by false false = passed key image is (slice_get r.chain (r.at + 1)) refl

  told : (key : List ℕ) (a : Answer) → work_key r.work ≡ key → Q (saying s (storage.confirmed r.tx key a))
  told key a is = subst (λ k. Q (saying s (storage.confirmed r.tx k a))) is (forms.answers a)

  operated : (op : Op) (a : Answer) → work_key r.work ≡ key_of op → Q (storage.operate_by s r.tx op r.chain r.at a)
  operated op answer.Done is = stored (key_of op) (image_of op) is
  operated op (answer.Found value) is = told (key_of op) (answer.Found value) is
  operated op answer.Missing is = told (key_of op) answer.Missing is
  operated op answer.E626 is = told (key_of op) answer.E626 is
  operated op answer.E630 is = told (key_of op) answer.E630 is

  pub perform_forms : Q (storage.perform s r)
  unfolding storage.perform
  perform_forms = by r.work refl
    where
      by : (w : RowWork) → work_key r.work ≡ work_key w → Q (storage.perform_by s r.tx r.chain r.at w)
      by (Operate op) is = operated op (answer_to op (seen s.rows r.tx (key_of op))) is
      by (Store key image) is = stored key image is

-- a request comes
pub record RequestForms (Q : Step LqhState → Type 0) (s : LqhState) (r : Request) : Type 0 where
  -- its lock is granted, and it is performed
  pub granted : (operate.asking s r).answer ≡ Granted → Q (operate.performed (operate.asked_for s r) r)
  -- it waits behind the others
  pub queued : (ahead : TxId) → (operate.asking s r).answer ≡ Queued ahead
      → Q (stay (with_waiting (operate.asked_for s r) (s.waiting ++ r ∷ [])))

-- the block goes on with requests that waited
pub record GrantedForms (Q : Step LqhState → Type 0) (s : LqhState) : Type 0 where
  -- none is granted
  pub none : operate.first_granted s.locks s.waiting ≡ None → Q (stay s)
  -- the first that is granted is performed
  pub some : (at : ℕ) (r : Request) → operate.first_granted s.locks s.waiting ≡ Some at
      → slice_get s.waiting at ≡ Some r
      → Q (operate.granted_on (with_waiting s (remove s.waiting at)) r)

-- The rows, the journal and the markers once a record is committed that was so (Some true), was prepared (Some false)
-- or isn't there.
pub record Applies (s : LqhState) (tx : TxId) (key : List ℕ) (epoch : ℕ) (had : Option Bool) (st : StorageState)
    (markers : List Marker) : Type 0 where
  pub had_is : record_state s.rows tx key ≡ had
  pub is : with_markers (with_storage s st) markers ≡ commit.applied s tx key epoch had

-- a commit, at a place of its chain
pub record CommitForms (Q : Step LqhState → Type 0) (s : LqhState) (tx : TxId) (key : List ℕ) (epoch : ℕ)
    (chain : List Member) (at : ℕ) : Type 0 where
  -- at the primary, which lets go of the lock
  pub last : (had : Option Bool) (st : StorageState) (markers : List Marker) → Applies s tx key epoch had st markers
      → (at == 0) ≡ true
      → Q (commit.told_if (with_markers (with_storage s st) markers) tx key epoch chain at had true)
  -- at a backup, which passes it on
  pub passes : (had : Option Bool) (st : StorageState) (markers : List Marker) → Applies s tx key epoch had st markers
      → (at == 0) ≡ false
      → Q (commit.told_if (with_markers (with_storage s st) markers) tx key epoch chain at had false)

-- the step of a completion, with the signal that tells it
abbrev pub completing : LqhState → TxId → List ℕ → Outgoing → Step LqhState
completing s tx key o =
    record {
      state = unlocked (with_rows s (complete_record s.rows tx key)) tx key;
      effects = record { sends = o ∷ serve_granted s.node (freed_lock s tx key); marks = mark.Done tx key ∷ [] };
    }

-- a completion, at a place of its chain
pub record CompleteForms (Q : Step LqhState → Type 0) (s : LqhState) (tx : TxId) (key : List ℕ) (chain : List Member)
    (at : ℕ) : Type 0 where
  -- at the primary
  pub last : (at == 0) ≡ true → Q (completing s tx key (complete.completed_by tx key chain at true))
  -- at a backup, which passes it on
  pub passes : (at == 0) ≡ false → Q (completing s tx key (complete.completed_by tx key chain at false))

-- the step of an abort, with the requests that still wait, the rows and the journal, and a refusal if one waited
abbrev pub aborting : LqhState → TxId → List ℕ → List Request → StorageState → Option Bool → List Outgoing
    → Step LqhState
aborting s tx key waiting st had refused =
    record {
      state = unlocked (with_storage (with_waiting s waiting) st) tx key;
      effects = record {
        sends = refused ++ (to_place (coordinator_of tx) (Chain (Aborted tx key)) ∷ serve_granted s.node
            (freed_lock s tx key));
        marks = abort.given_up_marks tx key had;
      };
    }

-- The rows and the journal once a record is given up that was committed (Some true), was prepared (Some false) or isn't
-- there.
pub record GivesUp (s : LqhState) (tx : TxId) (key : List ℕ) (had : Option Bool) (st : StorageState) : Type 0 where
  pub had_is : record_state s.rows tx key ≡ had
  pub is : (waiting : List Request) → with_storage (with_waiting s waiting) st
      ≡ abort.given_up (with_waiting s waiting) tx key had

-- an abort
pub record AbortForms (Q : Step LqhState → Type 0) (s : LqhState) (tx : TxId) (key : List ℕ) : Type 0 where
  -- no request of the transaction for the key waits
  pub none : (had : Option Bool) (st : StorageState) → GivesUp s tx key had st → abort.waits_at s tx key ≡ None
      → Q (aborting s tx key s.waiting st had [])
  -- one does, and is refused
  pub some : (had : Option Bool) (st : StorageState) → GivesUp s tx key had st → (at : ℕ) (r : Request)
      → abort.waits_at s tx key ≡ Some at
      → slice_get s.waiting at ≡ Some r
      → Q (aborting s tx key (remove s.waiting at) st had (storage.refusal tx key cause.Request ∷ []))

-- the step where a wait stood too long, with the requests that still wait
abbrev pub expiring : LqhState → TxId → List ℕ → Served → List Request → Step LqhState
expiring s tx key served waiting =
    record {
      state = with_waiting (with_lock s key served) waiting;
      effects = record {
        sends = storage.refusal tx key cause.Timeout
            ∷ (serve_granted s.node served ++ expire.more_expired (with_lock s key served));
        marks = mark.Expired tx key ∷ [];
      };
    }

-- the first wait that stood too long ends
pub record ExpireForms (Q : Step LqhState → Type 0) (s : LqhState) : Type 0 where
  -- there is no such wait
  pub rests : expired s.locks ≡ None → Q (stay s)
  -- its transaction has no request for the key
  pub none : (tx : TxId) (key : List ℕ) → expired s.locks ≡ Some (tx, key) → abort.waits_at s tx key ≡ None
      → Q (expiring s tx key (unwaited_at s.locks key tx) s.waiting)
  -- it has one, which goes
  pub some : (tx : TxId) (key : List ℕ) → expired s.locks ≡ Some (tx, key) → (at : ℕ) (r : Request)
      → abort.waits_at s tx key ≡ Some at
      → slice_get s.waiting at ≡ Some r → Q (expiring s tx key (unwaited_at s.locks key tx) (remove s.waiting at))

-- a coordinator asks what its transaction waits for
pub record WaitForms (Q : Step LqhState → Type 0) (s : LqhState) (tx : TxId) (key : List ℕ) : Type 0 where
  -- it waits for nobody
  pub none : ahead_at s.locks key tx ≡ None → Q (stay s)
  -- for this one
  pub some : (ahead : TxId) → ahead_at s.locks key tx ≡ Some ahead
      → Q (sending s (coordinator_of tx) (Client (LqhWaitConf tx ahead)))

-- an item stands where a list has a place of one that passes
abbrev IsPlace : {A : Type 0} → List A → Option ℕ → Type 0
IsPlace xs None = Unit {0}
IsPlace xs (Some at) = is_some (slice_get xs at) ≡ true

placed : {A : Type 0} (p : A → Bool) (xs : List A) → IsPlace xs (position p xs)
placed p [] = tt
placed p (x ∷ xs) = subst (IsPlace (x ∷ xs)) (sym (position-cons p x xs)) (by (p x) (position p xs) (placed p xs))
  where
    by : (b : Bool) (at : Option ℕ) → IsPlace xs at → IsPlace (x ∷ xs) (place_by b at)
    by true at there = refl
    by false None there = tt
    by false (Some at) there = there

module _ (Q : Step LqhState → Type 0) (s : LqhState) where
  pub request_forms : (r : Request) → RequestForms Q s r → Q (operate.request_row s r)
  unfolding operate.request_row
  request_forms r forms = by (operate.asking s r).answer refl
    where
      by : (a : Lock) → (operate.asking s r).answer ≡ a → Q (operate.asked_by (operate.asked_for s r) r a)
      by Granted is = forms.granted is
      by (Queued ahead) is = forms.queued ahead is

  pub granted_forms : GrantedForms Q s → Q (operate.granted_row s)
  unfolding operate.granted_row
  granted_forms forms = by (operate.first_granted s.locks s.waiting) refl
      (placed (operate.is_granted s.locks) s.waiting)
    where
      value : (at : ℕ) → operate.first_granted s.locks s.waiting ≡ Some at → (r : Option Request)
          → slice_get s.waiting at ≡ r → is_some r ≡ true
          → Q (operate.granted_value s at r)
      value at is None here there = absurd cc
      value at is (Some r) here there = forms.some at r is here

      by : (at : Option ℕ) → operate.first_granted s.locks s.waiting ≡ at → IsPlace s.waiting at
          → Q (operate.granted_by s at)
      by None is there = forms.none is
      by (Some at) is there = value at is (slice_get s.waiting at) refl there

  pub commit_forms : (tx : TxId) (key : List ℕ) (epoch : ℕ) (chain : List Member) (at : ℕ)
      → CommitForms Q s tx key epoch chain at
      → Q (commit.commit_row s tx key epoch chain at)
  unfolding commit.commit_row
  commit_forms tx key epoch chain at forms = by (record_state s.rows tx key) refl
    where
      told : (had : Option Bool) (st : StorageState) (markers : List Marker) → Applies s tx key epoch had st markers
          → (b : Bool) → (at == 0) ≡ b
          → Q (commit.told_if (with_markers (with_storage s st) markers) tx key epoch chain at had b)
      told had st markers applies true first = forms.last had st markers applies first
      told had st markers applies false first = forms.passes had st markers applies first

      by : (had : Option Bool) → record_state s.rows tx key ≡ had
          → Q (commit.told (commit.applied s tx key epoch had) tx key epoch chain at had)
      by None there = told None (storage_of s) s.markers (record { had_is = there; is = refl }) (at == 0) refl
      by (Some true) there = told (Some true) (storage_of s) s.markers (record { had_is = there; is = refl })
          (at == 0) refl
      by (Some false) there =
          told (Some false) (storage.committed_in (storage_of s) tx key epoch) (commit.marked s.markers tx key epoch)
          (record { had_is = there; is = refl }) (at == 0) refl

  pub complete_forms : (tx : TxId) (key : List ℕ) (chain : List Member) (at : ℕ) → CompleteForms Q s tx key chain at
      → Q (complete.complete_row s tx key chain at)
  unfolding complete.complete_row
  complete_forms tx key chain at forms = by (at == 0) refl
    where
      by : (b : Bool) → (at == 0) ≡ b → Q (completing s tx key (complete.completed_by tx key chain at b))
      by true first = forms.last first
      by false first = forms.passes first

  -- a request that stands at the first place of the transaction's for the key
  waiter : (tx : TxId) (key : List ℕ) (at : ℕ) → abort.waits_at s tx key ≡ Some at
      → is_some (slice_get s.waiting at) ≡ true
  waiter tx key at is = subst (IsPlace s.waiting) is (placed (is_for tx key) s.waiting)

  pub abort_forms : (tx : TxId) (key : List ℕ) → AbortForms Q s tx key → Q (abort.abort_row s tx key)
  unfolding abort.abort_row
  abort_forms tx key forms = by (abort.waits_at s tx key) refl
    where
      -- what the step does, with the request that waits and the record that there was
      Does : Option ℕ → Option Bool → Step LqhState
      Does at had =
          record {
            state = unlocked (abort.given_up (abort.unasked_by s at) tx key had) tx key;
            effects = record {
              sends = abort.refused_by tx key at ++
                  (to_place (coordinator_of tx) (Chain (Aborted tx key)) ∷ serve_granted s.node (freed_lock s tx key));
              marks = abort.given_up_marks tx key had;
            };
          }

      none : abort.waits_at s tx key ≡ None → (had : Option Bool) → record_state s.rows tx key ≡ had → Q (Does None had)
      none is None there = forms.none None (storage_of s) (record { had_is = there; is = λ waiting. refl }) is
      none is (Some true) there = forms.none (Some true) (storage_of s)
          (record { had_is = there; is = λ waiting. refl }) is
      none is (Some false) there =
          forms.none (Some false) (storage.aborted_in (storage_of s) tx key)
          (record { had_is = there; is = λ waiting. refl }) is

      some : (at : ℕ) → abort.waits_at s tx key ≡ Some at → (r : Option Request) → slice_get s.waiting at ≡ r
          → is_some r ≡ true
          → (had : Option Bool) → record_state s.rows tx key ≡ had → Q (Does (Some at) had)
      some at is None here there had had_is = absurd cc
      some at is (Some r) here there None had_is =
          forms.some None (storage_of s) (record { had_is = had_is; is = λ waiting. refl }) at r is here
      some at is (Some r) here there (Some true) had_is =
          forms.some (Some true) (storage_of s) (record { had_is = had_is; is = λ waiting. refl }) at r is here
      some at is (Some r) here there (Some false) had_is =
          forms.some (Some false) (storage.aborted_in (storage_of s) tx key)
          (record { had_is = had_is; is = λ waiting. refl }) at r is here

      by : (at : Option ℕ) → abort.waits_at s tx key ≡ at → Q (Does at (record_state s.rows tx key))
      by None is = none is (record_state s.rows tx key) refl
      by (Some at) is = some at is (slice_get s.waiting at) refl (waiter tx key at is) (record_state s.rows tx key) refl

  pub expire_forms : ExpireForms Q s → Q (expire.expire_row s)
  unfolding expire.expire_row
  expire_forms forms = by (expired s.locks) refl
    where
      -- what the step does, with the request that waits
      Does : TxId → List ℕ → Option ℕ → Step LqhState
      Does tx key at =
          let served = unwaited_at s.locks key tx in
          record {
            state = abort.unasked_by (with_lock s key served) at;
            effects = record {
              sends = storage.refusal tx key cause.Timeout
                  ∷ (serve_granted s.node served ++ expire.more_expired (with_lock s key served));
              marks = mark.Expired tx key ∷ [];
            };
          }

      one : (tx : TxId) (key : List ℕ) → expired s.locks ≡ Some (tx, key) → (at : Option ℕ)
          → abort.waits_at s tx key ≡ at → Q (Does tx key at)
      one tx key first None is = forms.none tx key first is
      one tx key first (Some at) is = value (slice_get s.waiting at) refl (waiter tx key at is)
        where
          value : (r : Option Request) → slice_get s.waiting at ≡ r → is_some r ≡ true → Q (Does tx key (Some at))
          value None here there = absurd cc
          value (Some r) here there = forms.some tx key first at r is here

      by : (w : Option (TxId × List ℕ)) → expired s.locks ≡ w → Q (expire.expire_by s w)
      by None is = forms.rests is
      by (Some w) is = one w.0 w.1 is (abort.waits_at s w.0 w.1) refl

  pub wait_forms : (tx : TxId) (key : List ℕ) → WaitForms Q s tx key → Q (wait.wait_row s tx key)
  unfolding wait.wait_row
  wait_forms tx key forms = by (ahead_at s.locks key tx) refl
    where
      by : (ahead : Option TxId) → ahead_at s.locks key tx ≡ ahead → Q (wait.wait_by s tx ahead)
      by None is = forms.none is
      by (Some ahead) is = forms.some ahead is

  -- rows are asked for: some are told, and where the next ones are
  pub dump_forms : (at : ℕ) → ((rows : List (List ℕ × List ℕ)) (next : Option ℕ)
      → Q (sending s client (Client (DumpConf rows next))))
      → Q (dump.dump_row s at)
  unfolding dump.dump_row
  dump_forms at told = told _ _

  -- markers go
  pub acknowledge_forms : (tx : TxId) → ((markers : List Marker) → Q (stay (with_markers s markers)))
      → Q (stay (wait.acknowledged s tx))
  unfolding wait.acknowledged
  acknowledge_forms tx left = left _

-- the signal is for the rows of a node
abbrev pub is_for_rows : Body → Bool
is_for_rows (Chain (LqhKeyReq tx what chain at)) = true
is_for_rows (Chain (Commit tx key epoch chain at)) = true
is_for_rows (Chain (Complete tx key chain at)) = true
is_for_rows (Chain (Abort tx key)) = true
is_for_rows (Client (TcCommitAck tx)) = true
is_for_rows (Client (LqhWaitReq tx key)) = true
is_for_rows (Client (DumpReq at)) = true
is_for_rows (Host Round) = true
is_for_rows (Host (Continue work.Granted at)) = true
is_for_rows (Host (Continue work.Expired at)) = true
is_for_rows _ = false

-- the forms of all steps, each with the signal at which it is taken
pub record LqhForms (Q : Body → Step LqhState → Type 0) (s : LqhState) : Type 0 where
  pub asks : (r : Request) → RequestForms (Q (Chain (LqhKeyReq r.tx r.work r.chain r.at))) s r
  pub grants : (at : ℕ) → GrantedForms (Q (Host (Continue work.Granted at))) s
  pub commits : (tx : TxId) (key : List ℕ) (epoch : ℕ) (chain : List Member) (at : ℕ)
      → CommitForms (Q (Chain (Commit tx key epoch chain at))) s tx key epoch chain at
  pub completes : (tx : TxId) (key : List ℕ) (chain : List Member) (at : ℕ)
      → CompleteForms (Q (Chain (Complete tx key chain at))) s tx key chain at
  pub aborts : (tx : TxId) (key : List ℕ) → AbortForms (Q (Chain (Abort tx key))) s tx key
  pub acknowledges : (tx : TxId) (markers : List Marker) → Q (Client (TcCommitAck tx)) (stay (with_markers s markers))
  pub waits : (tx : TxId) (key : List ℕ) → WaitForms (Q (Client (LqhWaitReq tx key))) s tx key
  pub dumps : (at : ℕ) (rows : List (List ℕ × List ℕ)) (next : Option ℕ)
      → Q (Client (DumpReq at)) (sending s client (Client (DumpConf rows next)))
  -- a round later
  pub ages : ExpireForms (Q (Host Round)) (expire.aged s)
  pub expires : (at : ℕ) → ExpireForms (Q (Host (Continue work.Expired at))) s
  -- the signal is for others
  pub rests : (body : Body) → is_for_rows body ≡ false → Q body (stay s)

-- whatever the rows take
pub lqh_forms : (Q : Body → Step LqhState → Type 0) (s : LqhState) → LqhForms Q s → (body : Body)
    → Q body (lqh_table s body)
lqh_forms Q s forms (Chain (LqhKeyReq tx what chain at)) =
    let r : Request = record { tx = tx; work = what; chain = chain; at = at } in
    request_forms (Q (Chain (LqhKeyReq tx what chain at))) s r (forms.asks r)
lqh_forms Q s forms (Host (Continue work.Granted at)) =
    granted_forms (Q (Host (Continue work.Granted at))) s (forms.grants at)
lqh_forms Q s forms (Chain (Commit tx key epoch chain at)) =
    commit_forms (Q (Chain (Commit tx key epoch chain at))) s tx key epoch chain
    at (forms.commits tx key epoch chain at)
lqh_forms Q s forms (Chain (Complete tx key chain at)) =
    complete_forms (Q (Chain (Complete tx key chain at))) s tx key chain at (forms.completes tx key chain at)
lqh_forms Q s forms (Chain (Abort tx key)) = abort_forms (Q (Chain (Abort tx key))) s tx key (forms.aborts tx key)
lqh_forms Q s forms (Client (TcCommitAck tx)) =
    acknowledge_forms (Q (Client (TcCommitAck tx))) s tx (forms.acknowledges tx)
lqh_forms Q s forms (Client (LqhWaitReq tx key)) =
    wait_forms (Q (Client (LqhWaitReq tx key))) s tx key (forms.waits tx key)
lqh_forms Q s forms (Client (DumpReq at)) = dump_forms (Q (Client (DumpReq at))) s at (forms.dumps at)
lqh_forms Q s forms (Host Round) = expire_forms (Q (Host Round)) (expire.aged s) forms.ages
lqh_forms Q s forms (Host (Continue work.Expired at)) =
    expire_forms (Q (Host (Continue work.Expired at))) s (forms.expires at)
lqh_forms Q s forms body = forms.rests body refl
