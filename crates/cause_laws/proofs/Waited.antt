-- Who waits has waited for the rounds that its queue counts, and who is over for eight of them.
use Rattle.std.proofs.Common.{◌≡◌, ◌==◌, ℕ, ◌+◌, Bool, true, false, List, [], ◌∷◌, refl, sym, ap, subst, arith}
use Rattle.std.specs.FinMap as finite
use Rattle.std.specs.Prelude.{Option, None, Some, if◌then◌else◌}
use Rattle.run_theory.proofs.Pasts.{each_in, each_map}
use Rattle.run_theory.specs.Lists.{Each, IsIn}
use Rattle.sig_core.specs.declared.mark.Mark.{Mark}
use Rattle.sig_core.specs.declared.mark.Mark.TheVariants as mark
use Rattle.sig_core.specs.declared.member.TxId.{TxId}
use Rattle.sig_core.specs.declared.place.BlockId.{BlockId}
use Rattle.sig_core.specs.declared.place.BlockId.TheVariants as block
use Rattle.sig_core.specs.declared.signal.Body.{Body}
use Rattle.sig_core.specs.declared.signal.Body.TheVariants.{Chain, Host}
use Rattle.sig_core.specs.declared.signal.chain.ChainSignal.TheVariants.{Abort, Commit, Complete, LqhKeyReq}
use Rattle.sig_core.specs.declared.signal.host.HostSignal.TheVariants.{Continue, Round}
use Rattle.sig_core.specs.declared.signal.host.Work.TheVariants as work
use Rattle.sig_core.specs.Firsts.{first}
use Rattle.sig_core.specs.Same.{same_key}
use Rattle.sig_core.specs.Work.{work_key}
use Rattle.row_locks.proofs.LocksLemmas.{key_cmp}
use Rattle.row_locks.specs.declared.claim.Wait.{Wait}
use Rattle.row_locks.specs.declared.mode.Lock.TheVariants.{Granted}
use Rattle.row_locks.specs.declared.queue.TheConstants.{ROUNDS}
use Rattle.row_locks.specs.Rounds.{expired}
use Rattle.row_locks.specs.Rows.{RowLock, asked}
use Rattle.row_locks.specs.Tables.{lock_at, or_unlocked}
use Rattle.api_block.proofs.EachApi.{api_marks_each}
use Rattle.row_records.proofs.KeyLemmas.{same as same_key-is}
use Rattle.lqh_block.specs.declared.request.Request.{Request}
use Rattle.lqh_block.specs.Expire.{aged}
use Rattle.lqh_block.specs.Operate.{is_granted}
use Rattle.lqh_block.specs.State.{LqhState, storage_of}
use Rattle.lqh_block.specs.Work.{work_mode}
use Rattle.node_core.proofs.HostCases.{each_mark}
use Rattle.node_core.specs.Blocks.{api_of, dih_of, lqh_of, tc_of}
use Rattle.node_core.specs.declared.host.Host.{Host as AnyHost}
use Rattle.node_core.specs.declared.host.Host.TheVariants.{Ldm}
use Rattle.node_core.specs.Dih.{DihState, dih_table}
use Rattle.node_core.proofs.DihForms.{dih_marks_each}
use Rattle.world_core.specs.Machine.{after}
use Rattle.world_core.specs.Start.{Start}
use Rattle.world_core.specs.Steps.{HostStep}
use Rattle.key_laws.proofs.KeyAfter.{asked_lock, served_lock}
use Rattle.key_laws.proofs.LocksAt.{lock-aged}
use Rattle.key_laws.specs.Replica.{Replica, event_at, expired_by, expires_if, is_let_in, is_refused}
use Rattle.key_laws.specs.Replica.{key_after, serves_if}
use Rattle.key_laws.specs.Replica as at
use Rattle.host_laws.proofs.rows.Replicas.{logs_follow}
use Rattle.host_laws.proofs.coordinator.Marks.{tc_marks}
use Rattle.run_theory.specs.Counts.{one_if}
use Rattle.host_laws.specs.ReplicaLaws.{event_for, event_in, key_in}
use Rattle.run_laws.proofs.hosts.FreshHosts.{started_unasked}
use Rattle.cause_laws.specs.Reasons.{HasStood, IsLongWait, locks_with}
use Rattle.cause_laws.specs.Waited.{HasWaited, IsAsking, IsOverAfter, TimeOutsTakeEightRounds, WaitsHaveTheirRounds}
use Rattle.cause_laws.specs.Waited.{is_round}
use Rattle.cause_laws.proofs.QueueRounds.{AreWaits, aged_keeps, asked_keeps, released_keeps, unwaited_keeps}
use Rattle.cause_laws.proofs.RowReasons.{rows_tell}

-- each wait in the queue has waited so in this log
abbrev Stand : List HostStep → List ℕ → RowLock → Type 0
Stand log key lock = AreWaits (λ tx rounds. HasWaited log tx key rounds) lock.queue

module _ (e : HostStep) (log : List HostStep) (key : List ℕ) where
  -- a step later
  later : (tx : TxId) (rounds : ℕ) → HasWaited log tx key rounds → HasWaited (e ∷ log) tx key rounds
  later tx rounds w = record {
    newer = e ∷ w.newer;
    ask = w.ask;
    older = w.older;
    is = ap (λ l. e ∷ l) w.is;
    asked = w.asked;
    since = omega (arith, w.since);
  }

  -- and a round
  round_later : is_round e.step.taken.body ≡ true → (tx : TxId) (rounds : ℕ) → HasWaited log tx key rounds
      → HasWaited (e ∷ log) tx key (rounds + 1)
  round_later is tx rounds w = record {
    newer = e ∷ w.newer;
    ask = w.ask;
    older = w.older;
    is = ap (λ l. e ∷ l) w.is;
    asked = w.asked;
    since = omega (arith, w.since, ap one_if is);
  }

  -- the step asks
  begins : (tx : TxId) → IsAsking e.step.taken.body tx key → HasWaited (e ∷ log) tx key 0
  begins tx is = record { newer = []; ask = e; older = log; is = refl; asked = is; since = omega arith }

  all_later : (lock : RowLock) → Stand log key lock → Stand (e ∷ log) key lock
  all_later lock all =
      each_map (λ (w : Wait). HasWaited log w.tx key w.rounds) (λ (w : Wait). HasWaited (e ∷ log) w.tx key w.rounds)
      lock.queue (λ w is. later w.tx w.rounds is) all

  -- what an event leaves
  abbrev Left : at.Event → Replica → Type 0
  Left event r = Stand (e ∷ log) key (key_after event r).lock

  module _ (r : Replica) (all : Stand log key r.lock) where
    stays : Stand (e ∷ log) key r.lock
    stays = all_later r.lock all

    if_own : (own : List ℕ) (event : at.Event) → (own ≡ key → Left event r) → Left (at.if_on own key event) r
    if_own own event is = by (same_key own key) refl
      where
        by : (b : Bool) → same_key own key ≡ b → Left (if b then event else at.rests) r
        by true on = is (same_key-is own key on)
        by false off = stays

    asks : (q : Request) (refused : Bool) → IsAsking e.step.taken.body q.tx key → Left (at.asks q refused) r
    asks q refused is =
        let a = asked r.lock q.tx (work_mode q.work) in
        subst (Stand (e ∷ log) key) (sym (asked_lock r a.lock q refused a.answer))
        (asked_keeps (λ tx rounds. HasWaited (e ∷ log) tx key rounds) r.lock q.tx (work_mode q.work) (begins q.tx is)
        stays)

    serves : (refused : Bool) → Left (at.serves refused) r
    serves refused =
        subst (Stand (e ∷ log) key) (sym (served_lock r refused (first (is_let_in r.lock) r.waiting))) stays

    lets_go : (tx : TxId) → Stand (e ∷ log) key (at.letting_go r r.cell tx).lock
    lets_go tx = released_keeps (λ tx rounds. HasWaited (e ∷ log) tx key rounds) r.lock tx stays

    commits : (tx : TxId) (b : Bool) → Left (at.commits tx b) r
    commits tx true = lets_go tx
    commits tx false = stays

    expires : (w : Option (TxId × List ℕ)) → Left (expires_if key w) r
    expires None = stays
    expires (Some w) =
        if_own w.1 (at.expires w.0)
        (λ own. unwaited_keeps (λ tx rounds. HasWaited (e ∷ log) tx key rounds) r.lock w.0 stays)

    aged_stand : is_round e.step.taken.body ≡ true → Stand (e ∷ log) key (at.ageing r).lock
    aged_stand is =
        aged_keeps (λ tx rounds. HasWaited log tx key rounds) (λ tx rounds. HasWaited (e ∷ log) tx key rounds) later
        (round_later is) r.lock.queue all

    ages : is_round e.step.taken.body ≡ true → (o : Option TxId) → Left (at.ages o) r
    ages is None = aged_stand is
    ages is (Some tx) =
        unwaited_keeps (λ tx rounds. HasWaited (e ∷ log) tx key rounds) (at.ageing r).lock tx (aged_stand is)

    granted : (s : LqhState) (o : Option Request) → Left (serves_if key s o) r
    granted s None = stays
    granted s (Some q) = if_own (work_key q.work) (at.serves (is_refused (storage_of s) q)) (λ own. serves _)

    events : (s : LqhState) (b : Body) → e.step.taken.body ≡ b → Left (event_at key s b) r
    events s (Chain (LqhKeyReq tx what chain place)) is =
        if_own (work_key what) _ (λ own. asks (record { tx = tx; work = what; chain = chain; at = place }) _
        (subst (λ c. IsAsking c tx key) (sym is) (refl, own)))
    events s (Host (Continue work.Granted place)) is = granted s (first (is_granted s.locks) s.waiting)
    events s (Chain (Commit tx own epoch chain place)) is =
        if_own own (at.commits tx (place == 0)) (λ same. commits tx (place == 0))
    events s (Chain (Complete tx own chain place)) is = if_own own (at.completes tx) (λ same. lets_go tx)
    events s (Chain (Abort tx own)) is = if_own own (at.aborts tx) (λ same. lets_go tx)
    events s (Host Round) is = ages (ap is_round is) (expired_by key (expired (aged s).locks))
    events s (Host (Continue work.Expired place)) is = expires (expired s.locks)
    events s _ is = stays

    events_for : (s : LqhState) (to : BlockId) → Left (event_for key s to e.step.taken.body) r
    events_for s block.Lqh = events s e.step.taken.body refl
    events_for s _ = stays

    events_in : (g : AnyHost) → Left (event_in key g e.step.taken) r
    events_in (Ldm s) = events_for s e.step.taken.to.block
    events_in _ = stays

module _ (start : Start) (h : ℕ) (key : List ℕ) where
  stand : (log : List HostStep) → Stand log key (key_in key (after start h log)).lock
  stand [] =
      let fresh = started_unasked start h in
      subst (λ (s : LqhState). Stand [] key (lock_at s.locks key)) (sym fresh.is)
      (subst (λ (o : Option RowLock). Stand [] key (or_unlocked o)) (sym (finite.get-empty key_cmp key)) tt)
  stand (e ∷ log) =
      subst (λ (r : Replica). Stand (e ∷ log) key r.lock) (sym (logs_follow start h log e key))
      (events_in e log key (key_in key (after start h log)) (stand log) (after start h log))

pub have_rounds : WaitsHaveTheirRounds
have_rounds start h log key wait among =
    each_in (λ (w : Wait). HasWaited log w.tx key w.rounds) wait (lock_at (lqh_of (after start h log)).locks key).queue
    (stand start h key log) among

module _ (start : Start) (h : ℕ) (log : List HostStep) (e : HostStep) where
  abbrev g : AnyHost
  g = after start h log

  -- who has stood for eight rounds has waited for them
  stood_waited : (tx : TxId) (key : List ℕ) → HasStood (locks_with e.step.taken.body (lqh_of g).locks) tx key
      → HasWaited (e ∷ log) tx key ROUNDS
  stood_waited tx key stood = by e.step.taken.body refl
    where
      long : HasWaited (e ∷ log) stood.wait.tx key stood.wait.rounds → HasWaited (e ∷ log) tx key ROUNDS
      long w = record {
        newer = w.newer;
        ask = w.ask;
        older = w.older;
        is = w.is;
        asked = subst (λ one. IsAsking w.ask.step.taken.body one key) stood.whose w.asked;
        since = omega (arith, w.since, stood.long);
      }

      here : RowLock → Type 0
      here lock = IsIn stood.wait lock.queue

      plain : here (lock_at (lqh_of g).locks key) → HasWaited (e ∷ log) tx key ROUNDS
      plain among =
          long (later e log key stood.wait.tx stood.wait.rounds (have_rounds start h log key stood.wait among))

      by : (b : Body) → e.step.taken.body ≡ b → HasWaited (e ∷ log) tx key ROUNDS
      by (Host Round) is =
          long (each_in (λ (w : Wait). HasWaited (e ∷ log) w.tx key w.rounds) stood.wait
          (at.ageing (key_in key g)).lock.queue
          (aged_stand e log key (key_in key g) (stand start h key log) (ap is_round is))
          (subst here (lock-aged (lqh_of g).locks key)
          (subst (λ c. here (lock_at (locks_with c (lqh_of g).locks) key)) is stood.queued)))
      by (Host work) is = plain (subst (λ c. here (lock_at (locks_with c (lqh_of g).locks) key)) is stood.queued)
      by _ is = plain (subst (λ c. here (lock_at (locks_with c (lqh_of g).locks) key)) is stood.queued)

  over_after : (m : Mark) → IsLongWait (lqh_of g) e.step.taken.body m → IsOverAfter (e ∷ log) m
  over_after (mark.Expired tx key) is = stood_waited tx key is
  over_after _ is = tt

  dih_none : (s : DihState) (b : Body) → Each (IsOverAfter (e ∷ log)) (dih_table s b).effects.marks
  dih_none s b = dih_marks_each (IsOverAfter (e ∷ log)) s b (λ tx ops is. tt)

pub take_eight_rounds : TimeOutsTakeEightRounds
take_eight_rounds start h log e =
    each_mark (IsOverAfter (e ∷ log)) (after start h log) e.step.taken (record {
      api = λ runs at.
          api_marks_each (IsOverAfter (e ∷ log)) (api_of (after start h log)) e.step.taken.body
          (λ tx epoch is. tt) (λ tx why is. tt);
      tc = λ runs at.
          subst (Each (IsOverAfter (e ∷ log))) (sym (tc_marks (tc_of (after start h log)) e.step.taken.body)) tt;
      dih = λ runs at. dih_none start h log e (dih_of (after start h log)) e.step.taken.body;
      rows = λ runs at.
          each_map (IsLongWait (lqh_of (after start h log)) e.step.taken.body) (IsOverAfter (e ∷ log)) _
          (over_after start h log e) (rows_tell (lqh_of (after start h log)) e.step.taken.body).marks;
    })
