-- What a step of a node's rows does to how many requests wait, and to how many signals it sends that are requests or
-- answers of
-- them: for any test of requests, and any of such signals.
use Rattle.std.proofs.Common.{◌≡◌, ℕ, ◌+◌, List, Bool, true, false, refl, sym, ap, ◌∙◌, arith}
use Rattle.std.specs.Prelude.{[], ◌∷◌, ◌++◌, ◌-◌, nat_lt, is_some, position, remove, None}
use Rattle.sig_core.specs.declared.member.Member.{Member}
use Rattle.sig_core.specs.declared.member.TxId.{TxId}
use Rattle.sig_core.specs.declared.outcome.AbortCause.{AbortCause}
use Rattle.sig_core.specs.declared.outcome.AbortCause.TheVariants as cause
use Rattle.sig_core.specs.declared.outs.Outgoing.{Outgoing}
use Rattle.sig_core.specs.declared.signal.Body.{Body}
use Rattle.sig_core.specs.declared.signal.Body.TheVariants.{Client, Chain}
use Rattle.sig_core.specs.declared.signal.chain.ChainSignal.TheVariants.{LqhKeyReq, LqhKeyConf, LqhKeyRef, Committed}
use Rattle.sig_core.specs.declared.signal.chain.ChainSignal.TheVariants.{Commit, Aborted}
use Rattle.sig_core.specs.declared.signal.client.ClientSignal.TheVariants.{LqhWaitConf, DumpConf}
use Rattle.sig_core.specs.declared.signal.host.Work as work_kind
use Rattle.sig_core.specs.declared.signal.host.Work.TheVariants as work
use Rattle.sig_core.specs.Chain.{node_at}
use Rattle.sig_core.specs.Place.{client, coordinator_of, rows_of}
use Rattle.sig_core.specs.Step.{Step, to_place}
use Rattle.row_locks.specs.Queues.{waits}
use Rattle.row_locks.specs.Rounds.{expired}
use Rattle.row_locks.specs.Rows.{RowLock, Served}
use Rattle.row_locks.specs.Tables.{lock_at, unwaited_at}
use Rattle.lqh_block.specs.Complete as complete
use Rattle.lqh_block.specs.declared.request.Request.{Request}
use Rattle.lqh_block.specs.Expire as expire
use Rattle.lqh_block.specs.Lqh.{lqh_table}
use Rattle.lqh_block.specs.Operate as operate
use Rattle.lqh_block.specs.State.{LqhState, freed_lock, go_on, go_on_if, serve_granted, storage_of, with_lock}
use Rattle.lqh_block.specs.State.{with_waiting}
use Rattle.lqh_block.specs.Storage as storage
use Rattle.lqh_block.specs.Storage.{StorageState}
use Rattle.lqh_block.specs.Work.{is_for}
use Rattle.lqh_block.proofs.LqhForms.{AbortForms, CommitForms, CompleteForms, ExpireForms, GrantedForms, RequestForms}
use Rattle.lqh_block.proofs.LqhForms.{is_for_rows, lqh_forms}
use Rattle.key_laws.proofs.LocksAt.{lock-aged}
use Rattle.run_theory.proofs.Focus.{taken_at, tally_taken}
use Rattle.host_laws.proofs.rows.QueueWaits.{expired_queued, waits_aged}
use Rattle.run_theory.proofs.Tally.{tally_append}
use Rattle.run_theory.specs.Counts.{one_if, tally}

-- a request, or what answers it
abbrev pub is_work : Body → Bool
is_work (Chain (LqhKeyReq tx what chain at)) = true
is_work (Chain (LqhKeyConf tx key answer)) = true
is_work (Chain (LqhKeyRef tx key why)) = true
is_work _ = false

-- the request that comes, where it is counted
abbrev pub asked_by : (Request → Bool) → Body → ℕ
asked_by w (Chain (LqhKeyReq tx what chain at)) = one_if (w (record { tx = tx; work = what; chain = chain; at = at }))
asked_by w _ = 0

none_asked : (w : Request → Bool) (body : Body) → is_for_rows body ≡ false → asked_by w body ≡ 0
none_asked w (Chain (LqhKeyReq tx what chain at)) e = absurd cc
none_asked w _ e = refl

-- One request that came or waited is performed, or refused, or a wait ends that has none, or else as many wait as did
-- and came.
pub data CountStep (w : Request → Bool) (test : Outgoing → Bool) (s : LqhState) (came : ℕ)
    (step : Step LqhState) : Type 0 where
  performs : (st : StorageState) (r : Request) → tally w s.waiting + came ≡ tally w step.state.waiting + one_if (w r)
      → tally test step.effects.sends ≡ tally test (storage.perform st r).effects.sends → CountStep w test s came step
  refuses : (tx : TxId) (key : List ℕ) (why : AbortCause) (r : Request) → is_for tx key r ≡ true
      → tally w s.waiting + came ≡ tally w step.state.waiting + one_if (w r)
      → tally test step.effects.sends ≡ one_if (test (storage.refusal tx key why)) → CountStep w test s came step
  ends : (tx : TxId) (key : List ℕ) → waits tx (lock_at s.locks key).queue ≡ true
      → position (is_for tx key) s.waiting ≡ None
      → tally w s.waiting + came ≡ tally w step.state.waiting
      → tally test step.effects.sends ≡ one_if (test (storage.refusal tx key cause.Timeout))
      → CountStep w test s came step
  rests : tally w s.waiting + came ≡ tally w step.state.waiting → tally test step.effects.sends ≡ 0
      → CountStep w test s came step

module _ (w : Request → Bool) (test : Outgoing → Bool)
    (are_work : (o : Outgoing) → is_work o.body ≡ false → test o ≡ false) where
  abbrev Counts : LqhState → ℕ → Step LqhState → Type 0
  Counts s came step = CountStep w test s came step

  none : (o : Outgoing) → is_work o.body ≡ false → one_if (test o) ≡ 0
  none o e = ap one_if (are_work o e)

  go_on_none : (node : ℕ) (what : work_kind.Work) (b : Bool) → tally test (go_on_if node what b) ≡ 0
  go_on_none node what true = omega (arith, none (go_on node what) refl)
  go_on_none node what false = refl

  served_none : (node : ℕ) (served : Served) → tally test (serve_granted node served) ≡ 0
  served_none node served = go_on_none node work.Granted (nat_lt 0 served.granted)

  asks : (s : LqhState) (r : Request) → RequestForms (Counts s (one_if (w r))) s r
  asks s r = record {
    granted = λ is. performs (storage_of s) r refl refl;
    queued = λ ahead is. rests (omega (arith, tally_append w s.waiting (r ∷ []))) refl;
  }

  grants : (s : LqhState) → GrantedForms (Counts s 0) s
  grants s = record {
    none = λ is. rests (omega arith) refl;
    some = λ at r is here.
        let left = with_waiting s (remove s.waiting at) in
        performs (storage_of s) r
        (omega (
          arith,
          tally_taken (operate.is_granted s.locks) w s.waiting at r
              (taken_at (operate.is_granted s.locks) s.waiting at r is here),
        ))
        (omega (
          arith,
          tally_append test (operate.performed left r).effects.sends (operate.more_granted left),
          go_on_none s.node work.Granted (is_some (operate.first_granted left.locks left.waiting)),
        ));
  }

  commits : (s : LqhState) (tx : TxId) (key : List ℕ) (epoch : ℕ) (chain : List Member) (at : ℕ)
      → CommitForms (Counts s 0) s tx key epoch chain at
  commits s tx key epoch chain at = record {
    last = λ had st markers applies first.
        rests (omega arith)
        (omega (
          arith,
          none (to_place (coordinator_of tx) (Chain (Committed tx key))) refl,
          served_none s.node
              (freed_lock s tx key),
        ));
    passes = λ had st markers applies first.
        rests (omega arith)
        (omega (
          arith,
          none (to_place (rows_of (node_at chain (at - 1))) (Chain (Commit tx key epoch chain (at - 1))))
              refl,
        ));
  }

  completes : (s : LqhState) (tx : TxId) (key : List ℕ) (chain : List Member) (at : ℕ)
      → CompleteForms (Counts s 0) s tx key chain at
  completes s tx key chain at = record {
    last = λ first.
        rests (omega arith)
        (omega (
          arith,
          none (complete.completed_by tx key chain at true) refl,
          served_none s.node
              (freed_lock s tx key),
        ));
    passes = λ first.
        rests (omega arith)
        (omega (
          arith,
          none (complete.completed_by tx key chain at false) refl,
          served_none s.node
              (freed_lock s tx key),
        ));
  }

  aborts : (s : LqhState) (tx : TxId) (key : List ℕ) → AbortForms (Counts s 0) s tx key
  aborts s tx key = record {
    none = λ had st gives is. rests (omega arith) others;
    some = λ had st gives at r is here.
        let t = taken_at (is_for tx key) s.waiting at r is here in
        refuses tx key cause.Request r t.passes (omega (arith, tally_taken (is_for tx key) w s.waiting at r t))
        (omega (arith, others));
  }
    where
      others : tally test (to_place (coordinator_of tx) (Chain (Aborted tx key)) ∷ serve_granted s.node
          (freed_lock s tx key)) ≡ 0
      others = omega (
        arith,
        none (to_place (coordinator_of tx) (Chain (Aborted tx key))) refl,
        served_none s.node
            (freed_lock s tx key),
      )

  -- also where the locks are a round older
  expires : (s t : LqhState) → t.waiting ≡ s.waiting
      → ((tx : TxId) (key : List ℕ) → waits tx (lock_at t.locks key).queue ≡ true
      → waits tx (lock_at s.locks key).queue ≡ true)
      → ExpireForms (Counts s 0) t
  expires s t same as_long = record {
    rests = λ is. rests (omega (arith, ap (tally w) same)) refl;
    none = λ tx key is gone.
        ends tx key (as_long tx key (expired_queued t.locks tx key is))
        (ap (position (is_for tx key)) (sym same) ∙ gone)
        (omega (arith, ap (tally w) same)) (others tx key);
    some = λ tx key is at r there here.
        let taken = taken_at (is_for tx key) t.waiting at r there here in
        refuses tx key cause.Timeout r taken.passes
        (omega (arith, ap (tally w) same, tally_taken (is_for tx key) w t.waiting at r taken)) (others tx key);
  }
    where
      others : (tx : TxId) (key : List ℕ)
          → tally test (storage.refusal tx key cause.Timeout
          ∷ (serve_granted t.node (unwaited_at t.locks key tx) ++ expire.more_expired
          (with_lock t key (unwaited_at t.locks key tx))))
          ≡ one_if (test (storage.refusal tx key cause.Timeout))
      others tx key =
          let served = unwaited_at t.locks key tx in
          omega (
            arith,
            tally_append test (serve_granted t.node served) (expire.more_expired (with_lock t key served)),
            served_none t.node served,
            go_on_none t.node work.Expired (is_some (expired (with_lock t key served).locks)),
          )

  pub count_step : (s : LqhState) (body : Body) → CountStep w test s (asked_by w body) (lqh_table s body)
  count_step s =
      lqh_forms (λ body step. CountStep w test s (asked_by w body) step) s (record {
        asks = λ r. asks s r;
        grants = λ at. grants s;
        commits = λ tx key epoch chain at. commits s tx key epoch chain at;
        completes = λ tx key chain at. completes s tx key chain at;
        aborts = λ tx key. aborts s tx key;
        acknowledges = λ tx markers. rests (omega arith) refl;
        waits = λ tx key. record {
          none = λ is. rests (omega arith) refl;
          some = λ ahead is. rests (omega arith)
              (omega (arith, none (to_place (coordinator_of tx) (Client (LqhWaitConf tx ahead))) refl));
        };
        dumps = λ at rows next. rests (omega arith)
            (omega (arith, none (to_place client (Client (DumpConf rows next))) refl));
        ages = expires s (expire.aged s) refl (λ tx key is.
            sym (waits_aged tx (lock_at s.locks key).queue)
            ∙ (ap (λ (l : RowLock). waits tx l.queue) (sym (lock-aged s.locks key)) ∙ is));
        expires = λ at. expires s s refl (λ tx key is. is);
        rests = λ body is. rests (omega (arith, none_asked w body is)) refl;
      })
