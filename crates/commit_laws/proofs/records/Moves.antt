-- What a signal makes of the record of one transaction on one key, where nothing is asked for it there.
use Rattle.std.proofs.Common.{◌≡◌, ◌⊎◌, ◌==◌, ◌∙◌, ℕ, Bool, true, false, List, [], ◌∷◌, refl, sym, ap, subst, inl, inr}
use Rattle.std.specs.Prelude.{if◌then◌else◌, Option, None, Some}
use Rattle.run_theory.proofs.Pasts.{each_filter}
use Rattle.run_theory.specs.Lists.{Each}
use Rattle.sig_core.specs.declared.member.Member.{Member}
use Rattle.sig_core.specs.declared.member.TxId.{TxId}
use Rattle.sig_core.specs.declared.rows.PendingRecord.{PendingRecord}
use Rattle.sig_core.specs.declared.signal.Body.{Body}
use Rattle.sig_core.specs.declared.signal.Body.TheVariants.{Chain, Host}
use Rattle.sig_core.specs.declared.signal.Signal.{Signal}
use Rattle.sig_core.specs.declared.signal.chain.ChainSignal.TheVariants.{Abort, Commit, Complete, LqhKeyReq}
use Rattle.sig_core.specs.declared.signal.host.HostSignal.TheVariants.{Continue, Round}
use Rattle.sig_core.specs.declared.signal.host.Work.TheVariants as work
use Rattle.sig_core.specs.Firsts.{first}
use Rattle.sig_core.specs.Same.{same_key, same_tx}
use Rattle.sig_core.specs.Work.{work_key}
use Rattle.row_records.proofs.KeyLemmas.{same}
use Rattle.sig_core.proofs.TxLemmas.{same_tx-is}
use Rattle.row_locks.specs.Rounds.{expired}
use Rattle.lqh_block.specs.declared.request.Request.{Request}
use Rattle.lqh_block.specs.Expire.{aged}
use Rattle.lqh_block.specs.Lqh.{lqh_table}
use Rattle.lqh_block.specs.Operate.{is_granted}
use Rattle.lqh_block.specs.State.{LqhState, storage_of}
use Rattle.lqh_views.specs.Replica.{replica_row}
use Rattle.lqh_views.specs.State.{ReplicaState}
use Rattle.key_laws.specs.Records.{AreOnce, as_committed, edited, found, if_committed, put_back, unless_committed}
use Rattle.key_laws.specs.Replica.{Event, Replica, aborts as gives_up, ages, asks, asks_for, at_key}
use Rattle.key_laws.specs.Replica.{commits as makes_so, completes as ends, event_at, expired_by, expires, expires_if}
use Rattle.key_laws.specs.Replica.{if_on, is_let_in, is_refused, key_after, rests, serves, serves_if}
use Rattle.key_laws.proofs.RecordLemmas.{KeepsTx, committed_keeps, if_keeps, unless_keeps}
use Rattle.key_laws.proofs.Waiting.{each-first_item}
use Rattle.host_laws.specs.ReplicaLaws.{IsWell}
use Rattle.host_laws.proofs.rows.Replicas.{signals_are_events as rows_are_events}
use Rattle.run_laws.proofs.circle.OthersStay.{event_of, is_of, of_first, others_stay}
use Rattle.run_laws.specs.Tokens.{is_token}
use Rattle.request_laws.proofs.replicas.WaitersHaveRequests.{rows_within}

-- a record, or none, behind an edit of its own
abbrev pub now_by : (PendingRecord → Option PendingRecord) → Option PendingRecord → Option PendingRecord
now_by f None = None
now_by f (Some r) = f r

pub found_own : (f : PendingRecord → Option PendingRecord) → KeepsTx f → (tx : TxId) (xs : List PendingRecord)
    → AreOnce xs → found tx (edited f tx xs) ≡ now_by f (found tx xs)
found_own f keeps tx [] once = refl
found_own f keeps tx (r ∷ rest) once = by (same_tx r.tx tx) refl (found_own f keeps tx rest once.1)
  where
    back : (o : Option PendingRecord) → f r ≡ o → same_tx r.tx tx ≡ true → found tx (put_back o rest) ≡ o
    back None is e = ap (λ t. found t rest) (sym (same_tx-is r.tx tx e)) ∙ once.0
    back (Some x) is e =
        ap (λ b. if b then Some x else found tx rest) (ap (λ t. same_tx t tx) (keeps r x is) ∙ e)

    by : (b : Bool) → same_tx r.tx tx ≡ b → found tx (edited f tx rest) ≡ now_by f (found tx rest)
        → found tx (if b then put_back (f r) rest else r ∷ edited f tx rest)
        ≡ now_by f (if b then Some r else found tx rest)
    by true e more = back (f r) refl e
    by false e more = ap (λ b. if b then Some r else found tx (edited f tx rest)) e ∙ more

-- nothing is stored, committed or dropped by the event
abbrev IsStill : Event → Type 0
IsStill rests = Unit {0}
IsStill (expires tx) = Unit {0}
IsStill (ages o) = Unit {0}
IsStill event = ⊥

still_cell : (event : Event) (r : Replica) → IsStill event → (key_after event r).cell ≡ r.cell
still_cell rests r is = refl
still_cell (expires tx) r is = refl
still_cell (ages None) r is = refl
still_cell (ages (Some tx)) r is = refl
still_cell (asks q refused) r is = absurd is
still_cell (serves refused) r is = absurd is
still_cell (makes_so tx b) r is = absurd is
still_cell (ends tx) r is = absurd is
still_cell (gives_up tx) r is = absurd is

module _ (tx : TxId) (key : List ℕ) where
  -- the record before and behind the signal
  pub data RecordMoves (body : Body) (was now : Option PendingRecord) : Type 0 where
    stays : now ≡ was → RecordMoves body was now
    commits : (epoch : ℕ) (chain : List Member) (at : ℕ) → body ≡ Chain (Commit tx key epoch chain at)
        → now ≡ now_by as_committed was → RecordMoves body was now
    completes : (chain : List Member) (at : ℕ) → body ≡ Chain (Complete tx key chain at)
        → now ≡ now_by unless_committed was → RecordMoves body was now
    aborts : body ≡ Chain (Abort tx key) → now ≡ now_by if_committed was → RecordMoves body was now

  abbrev pub record_in : LqhState → Option PendingRecord
  record_in s = found tx (at_key key s).cell.pending

  -- nothing is asked for it by the signal, and none of its requests waits
  pub record IsIdle (s : LqhState) (body : Body) : Type 0 where
    pub taken : is_token tx body ≡ false
    pub waits : Each (λ (q : Request). same_tx q.tx tx ≡ false) s.waiting

  module _ (s : LqhState) (well : IsWell s) (once : AreOnce (at_key key s).cell.pending) where
    abbrev r : Replica
    r = at_key key s

    abbrev Behind : Body → Event → Type 0
    Behind body event = RecordMoves body (found tx r.cell.pending) (found tx (key_after event r).cell.pending)

    other : (body : Body) (event : Event) → is_of tx (event_of event r) ≡ false → Behind body event
    other body event off = stays (others_stay tx event r off).found_is

    still : (body : Body) (event : Event) → IsStill event → Behind body event
    still body event is = stays (ap (λ c. found tx c.pending) (still_cell event r is))

    on : (body : Body) (own : List ℕ) (event : Event) → (own ≡ key → Behind body event)
        → Behind body (if_on own key event)
    on body own event here = by (same_key own key) refl
      where
        by : (b : Bool) → same_key own key ≡ b → Behind body (if b then event else rests)
        by true e = here (same own key e)
        by false e = stays refl

    committing : (u : TxId) (own : List ℕ) (epoch : ℕ) (chain : List Member) (at : ℕ) → own ≡ key → (first : Bool)
        → Behind (Chain (Commit u own epoch chain at)) (makes_so u first)
    committing u own epoch chain at here first = by (same_tx u tx) refl first
      where
        own_is : same_tx u tx ≡ true → Chain (Commit u own epoch chain at) ≡ Chain (Commit tx key epoch chain at)
        own_is e = λ i. Chain (Commit (same_tx-is u tx e i) (here i) epoch chain at)

        found_is : same_tx u tx ≡ true
            → found tx (edited as_committed u r.cell.pending) ≡ now_by as_committed (found tx r.cell.pending)
        found_is e =
            ap (λ t. found tx (edited as_committed t r.cell.pending)) (same_tx-is u tx e)
            ∙ found_own as_committed committed_keeps tx r.cell.pending once

        by : (b : Bool) → same_tx u tx ≡ b → (first : Bool)
            → Behind (Chain (Commit u own epoch chain at)) (makes_so u first)
        by true e true = commits epoch chain at (own_is e) (found_is e)
        by true e false = commits epoch chain at (own_is e) (found_is e)
        by false e first = other (Chain (Commit u own epoch chain at)) (makes_so u first) e

    completing : (u : TxId) (own : List ℕ) (chain : List Member) (at : ℕ) → own ≡ key
        → Behind (Chain (Complete u own chain at)) (ends u)
    completing u own chain at here = by (same_tx u tx) refl
      where
        by : (b : Bool) → same_tx u tx ≡ b → Behind (Chain (Complete u own chain at)) (ends u)
        by true e =
            completes chain at (λ i. Chain (Complete (same_tx-is u tx e i) (here i) chain at))
            (ap (λ t. found tx (edited unless_committed t r.cell.pending)) (same_tx-is u tx e)
            ∙ found_own unless_committed unless_keeps tx r.cell.pending once)
        by false e = other (Chain (Complete u own chain at)) (ends u) e

    aborting : (u : TxId) (own : List ℕ) → own ≡ key → Behind (Chain (Abort u own)) (gives_up u)
    aborting u own here = by (same_tx u tx) refl
      where
        by : (b : Bool) → same_tx u tx ≡ b → Behind (Chain (Abort u own)) (gives_up u)
        by true e =
            aborts (λ i. Chain (Abort (same_tx-is u tx e i) (here i)))
            (ap (λ t. found tx (edited if_committed t r.cell.pending)) (same_tx-is u tx e)
            ∙ found_own if_committed if_keeps tx r.cell.pending once)
        by false e = other (Chain (Abort u own)) (gives_up u) e

    -- none of those that wait for the key is of it
    module _ (none : Each (λ (q : Request). same_tx q.tx tx ≡ false) s.waiting) where
      here_none : Each (λ (q : Request). same_tx q.tx tx ≡ false) r.waiting
      here_none = each_filter (λ (q : Request). same_tx q.tx tx ≡ false) (asks_for key) s.waiting none

      let_in : (o : Option Request) → first (is_let_in r.lock) r.waiting ≡ o → is_of tx (of_first o) ≡ false
      let_in None is = refl
      let_in (Some one) is =
          each-first_item (λ (q : Request). same_tx q.tx tx ≡ false) (is_let_in r.lock) r.waiting one here_none is

      serving : (at : ℕ) (o : Option Request) → Behind (Host (Continue work.Granted at)) (serves_if key s o)
      serving at None = stays refl
      serving at (Some q) =
          on (Host (Continue work.Granted at)) (work_key q.work) (serves (is_refused (storage_of s) q))
          (λ own. other (Host (Continue work.Granted at)) (serves (is_refused (storage_of s) q))
          (let_in (first (is_let_in r.lock) r.waiting) refl))

    expiring : (body : Body) (o : Option (TxId × List ℕ)) → Behind body (expires_if key o)
    expiring body None = stays refl
    expiring body (Some wait) = on body wait.1 (expires wait.0) (λ own. still body (expires wait.0) tt)

    event_moves : (body : Body) → IsIdle s body → Behind body (event_at key s body)
    event_moves (Chain (LqhKeyReq u asked chain at)) idle =
        let q : Request = record { tx = u; work = asked; chain = chain; at = at } in
        on (Chain (LqhKeyReq u asked chain at)) (work_key asked) (asks q (is_refused (storage_of s) q))
        (λ own. other (Chain (LqhKeyReq u asked chain at)) (asks q (is_refused (storage_of s) q)) idle.taken)
    event_moves (Chain (Commit u own epoch chain at)) idle =
        on (Chain (Commit u own epoch chain at)) own (makes_so u (at == 0))
        (λ here. committing u own epoch chain at here (at == 0))
    event_moves (Chain (Complete u own chain at)) idle =
        on (Chain (Complete u own chain at)) own (ends u) (completing u own chain at)
    event_moves (Chain (Abort u own)) idle = on (Chain (Abort u own)) own (gives_up u) (aborting u own)
    event_moves (Host (Continue work.Granted at)) idle =
        serving idle.waits at (first (is_granted s.locks) s.waiting)
    event_moves (Host Round) idle =
        still (Host Round) (ages (expired_by key (expired (aged s).locks))) tt
    event_moves (Host (Continue work.Expired at)) idle =
        expiring (Host (Continue work.Expired at)) (expired s.locks)
    event_moves body idle = stays refl

    pub lqh_moves : (body : Body) → IsIdle s body → RecordMoves body (record_in s) (record_in (lqh_table s body).state)
    lqh_moves body idle =
        subst (RecordMoves body (record_in s))
        (ap (λ (p : Replica). found tx p.cell.pending) (sym (rows_are_events s body key well)))
        (event_moves body idle)

  -- whatever the rows take
  pub record_moves : (s : ReplicaState) (x : Signal) → IsWell s.lqh → AreOnce (at_key key s.lqh).cell.pending
      → IsIdle s.lqh x.body → RecordMoves x.body (record_in s.lqh) (record_in (replica_row s x).state.lqh)
  record_moves s x well once idle = by (rows_within s x)
    where
      by : ((replica_row s x).state.lqh ≡ s.lqh) ⊎ ((replica_row s x).state.lqh ≡ (lqh_table s.lqh x.body).state)
          → RecordMoves x.body (record_in s.lqh) (record_in (replica_row s x).state.lqh)
      by (inl same) = stays (ap record_in same)
      by (inr same) =
          subst (λ (l : LqhState). RecordMoves x.body (record_in s.lqh) (record_in l)) (sym same)
          (lqh_moves s.lqh well once x.body idle)
