-- At an event: who has something prepared at a member of the current view holds the lock of its key, and whoever lets
-- go of it, being committed there, is committed at all replicas.
use Rattle.std.proofs.Common.{◌≡◌, ◌⊎◌, ◌==◌, ◌||◌, ◌∙◌, ℕ, Bool, true, false, List, ◌∷◌, refl}
use Rattle.std.proofs.Common.{sym, ap, subst, inl, inr}
use Rattle.std.proofs.lemmas.Bool.{eqb-true, or_left, true≢false}
use Rattle.std.specs.Prelude.{if◌then◌else◌, is_some, Option, None, Some}
use Rattle.run_theory.specs.Lists.{IsIn}
use Rattle.sig_core.specs.declared.member.Member.{Member}
use Rattle.sig_core.specs.declared.member.TxId.{TxId}
use Rattle.sig_core.specs.declared.rows.PendingRecord.{PendingRecord}
use Rattle.sig_core.specs.declared.signal.Body.{Body}
use Rattle.sig_core.specs.declared.signal.Body.TheVariants.{Chain, Host}
use Rattle.sig_core.specs.declared.signal.Signal.{Signal}
use Rattle.sig_core.specs.declared.signal.chain.ChainSignal.TheVariants.{Abort, Commit, Complete, LqhKeyReq}
use Rattle.sig_core.specs.declared.signal.host.HostSignal.TheVariants.{Continue, Round}
use Rattle.sig_core.specs.declared.signal.host.Work.TheVariants as work
use Rattle.sig_core.specs.declared.view.View.{View}
use Rattle.sig_core.specs.Firsts.{first}
use Rattle.sig_core.specs.Rows.{record_state, state_by}
use Rattle.sig_core.specs.Same.{same_key, same_tx}
use Rattle.sig_core.specs.Work.{work_key}
use Rattle.sig_core.proofs.TxLemmas.{same_tx-is}
use Rattle.row_locks.specs.declared.mode.Mode.TheVariants.{Exclusive}
use Rattle.row_locks.specs.Holders.{holds_enough}
use Rattle.row_locks.specs.Orderly.{IsOrderly}
use Rattle.row_locks.specs.Rounds.{expired}
use Rattle.row_records.proofs.KeyLemmas.{same}
use Rattle.lqh_block.specs.declared.request.Request.{Request}
use Rattle.lqh_block.specs.Operate.{is_granted}
use Rattle.lqh_block.specs.State.{LqhState, storage_of}
use Rattle.lqh_block.specs.Views.{goes_on_holding, is_coordinated}
use Rattle.lqh_views.specs.Replica.{installed}
use Rattle.lqh_views.specs.State.{ReplicaState}
use Rattle.key_laws.specs.Records.{AreOnce, as_committed, found, if_committed, unless_committed}
use Rattle.key_laws.specs.Replica.{Cell, Event, Replica, aborts, asks, at_key, commits, completes, event_at, expires}
use Rattle.key_laws.specs.Replica.{expires_if, if_on, is_refused, key_after, rests, serves, serves_if}
use Rattle.key_laws.proofs.EpochLemmas.{state_found}
use Rattle.host_laws.specs.ReplicaLaws.{IsWell}
use Rattle.world_core.specs.Start.{Start, made}
use Rattle.world_core.specs.Steps.{HostStep}
use Rattle.moment_laws.specs.Moments.{IsMoment, logs_of}
use Rattle.moment_laws.specs.Places.{ldm_of}
use Rattle.moment_laws.proofs.MomentViews.{moment_less}
use Rattle.request_laws.specs.Replicas.{event_under}
use Rattle.request_laws.proofs.replicas.KeyEvents.{installations_are_events, signals_are_events}
use Rattle.commit_laws.specs.Commits.{HasWritten, committed_there}
use Rattle.commit_laws.specs.Fates.{aborts as fate_aborts, commits as fate_commits}
use Rattle.commit_laws.specs.Forth.{ForthIsKnownAlways}
use Rattle.commit_laws.specs.Going.{is_forth}
use Rattle.commit_laws.specs.Markers.{CommitsAreRemembered}
use Rattle.commit_laws.specs.Together.{AllStand}
use Rattle.commit_laws.specs.Traces.{IsCommittedAtAll, has_marker_at, is_committed_at, is_committed_by, is_known}
use Rattle.commit_laws.specs.Traces.{members_now, record_at, replica_at, rows_at}
use Rattle.commit_laws.specs.Whole.{CommitsGoWhole}
use Rattle.commit_laws.proofs.commits.Places.{as_before, cell_before, complete_place, well}
use Rattle.commit_laws.proofs.commits.Now.{at_all_first}
use Rattle.commit_laws.proofs.commits.Remain.{AcknowledgedAreKnown, at_all_stays}
use Rattle.commit_laws.proofs.forth.DecidedStay.{forth_decided, written_before}
use Rattle.commit_laws.proofs.fates.Committed.{forth_calm}
use Rattle.commit_laws.proofs.records.KeyGoes.{RecordGoes, TakesNow, is_aborted, is_committed, is_completed, key_goes}
use Rattle.commit_laws.proofs.records.KeyGoes.{record_stays}
use Rattle.commit_laws.proofs.records.LockKeeps.{HasPrepared, IsFair, IsHeld, hold_after, holds, lets_go}
use Rattle.commit_laws.proofs.records.LockKeeps.{prepared_after}
use Rattle.commit_laws.proofs.records.Moves.{now_by}
use Rattle.commit_laws.proofs.records.Once.{rows_once, rows_well}
use Rattle.commit_laws.proofs.records.Replicas.{member_before, member_made}
use Rattle.commit_laws.proofs.records.Attended.{attended_between, on_so, rows_attended, under_is}
use Rattle.commit_laws.proofs.hosts.RowsTurn.{IsBetween, IsTakenAt, RowsGo, as_was, enter, entered, rest, rows_go, take}
use Rattle.commit_laws.proofs.links.TakenChains.{IsKeptForth, abort_aborts, complete_kept}
use Rattle.commit_laws.proofs.markers.Traces.{complete_done, record_commits, trace_before, written_now}
use Rattle.commit_laws.proofs.led.Events.{left_enough}

-- a signal at which a transaction lets go of the lock of a key
pub data LetsGo (tx : TxId) (key : List ℕ) (body : Body) : Type 0 where
  by_commit : (epoch : ℕ) (chain : List Member) (at : ℕ) → at ≡ 0 → body ≡ Chain (Commit tx key epoch chain at)
      → LetsGo tx key body
  by_completion : (chain : List Member) (at : ℕ) → body ≡ Chain (Complete tx key chain at) → LetsGo tx key body
  by_abort : body ≡ Chain (Abort tx key) → LetsGo tx key body

module _ (tx : TxId) (key : List ℕ) (s : LqhState) where
  on_key : (own : List ℕ) (event : Event) → lets_go tx (if_on own key event) ≡ true
      → (own ≡ key) × (lets_go tx event ≡ true)
  on_key own event is = by (same_key own key) refl is
    where
      by : (b : Bool) → same_key own key ≡ b → lets_go tx (if b then event else rests) ≡ true
          → (own ≡ key) × (lets_go tx event ≡ true)
      by true e is = (same own key e, is)
      by false e is = absurd (true≢false (sym is))

  first_place : (u : TxId) (first : Bool) → lets_go tx (commits u first) ≡ true
      → (first ≡ true) × (same_tx u tx ≡ true)
  first_place u true is = (refl, is)
  first_place u false is = absurd (true≢false (sym is))

  quiet_on : (own : List ℕ) (event : Event) → lets_go tx event ≡ false → lets_go tx (if_on own key event) ≡ false
  quiet_on own event off = on_so (λ event. lets_go tx event ≡ false) own key event refl off

  lets_go_by : (body : Body) → lets_go tx (event_at key s body) ≡ true → LetsGo tx key body
  lets_go_by (Chain (Commit u own epoch chain at)) is =
      let one = on_key own (commits u (at == 0)) is in
      let here = first_place u (at == 0) one.1 in
      by_commit epoch chain at (eqb-true at 0 here.0)
      (λ i. Chain (Commit (same_tx-is u tx here.1 i) (one.0 i) epoch chain at))
  lets_go_by (Chain (Complete u own chain at)) is =
      let one = on_key own (completes u) is in
      by_completion chain at (λ i. Chain (Complete (same_tx-is u tx one.1 i) (one.0 i) chain at))
  lets_go_by (Chain (Abort u own)) is =
      let one = on_key own (aborts u) is in
      by_abort (λ i. Chain (Abort (same_tx-is u tx one.1 i) (one.0 i)))
  lets_go_by (Chain (LqhKeyReq u asked chain at)) is =
      absurd (true≢false (sym is
      ∙ quiet_on (work_key asked)
      (asks (record { tx = u; work = asked; chain = chain; at = at })
      (is_refused (storage_of s) (record { tx = u; work = asked; chain = chain; at = at }))) refl))
  lets_go_by (Host (Continue work.Granted at)) is = absurd
      (true≢false (sym is ∙ by (first (is_granted s.locks) s.waiting)))
    where
      by : (o : Option Request) → lets_go tx (serves_if key s o) ≡ false
      by None = refl
      by (Some q) = quiet_on (work_key q.work) (serves (is_refused (storage_of s) q)) refl
  lets_go_by (Host Round) is = absurd (true≢false (sym is))
  lets_go_by (Host (Continue work.Expired at)) is = absurd (true≢false (sym is ∙ by (expired s.locks)))
    where
      by : (o : Option (TxId × List ℕ)) → lets_go tx (expires_if key o) ≡ false
      by None = refl
      by (Some wait) = quiet_on wait.1 (expires wait.0) refl
  lets_go_by body is = absurd (true≢false (sym is))

module _ (forth : ForthIsKnownAlways) (remembered : CommitsAreRemembered) (acknowledged : AcknowledgedAreKnown)
    (whole : CommitsGoWhole) (start : Start) (all : ℕ → List HostStep) (e : HostStep) (es : List HostStep)
    (moment : IsMoment start all (e ∷ es)) (stood : AllStand start es) (member : Member)
    (among : IsIn member (members_now start (logs_of start (e ∷ es)))) (key : List ℕ) (tx : TxId)
  where
    abbrev old : ℕ → List HostStep
    old = logs_of start es

    abbrev new : ℕ → List HostStep
    new = logs_of start (e ∷ es)

    abbrev before : IsMoment start all es
    before = moment_less start all e es moment

    abbrev x : Signal
    x = e.step.taken

    pub was_among : IsIn member (members_now start (logs_of start es))
    was_among = member_before start all e es moment member among

    pub there : IsIn member (made start)
    there = member_made start all es before member was_among

    abbrev hold_was : Bool
    hold_was = holds tx (replica_at start old member key)

    abbrev rows_old : ReplicaState
    rows_old = rows_at start old member

    well_old : IsWell rows_old.lqh
    well_old = rows_well start moment.cluster.nobody member there (old (ldm_of start member))

    -- who has a record holds on where a view is installed
    install_holds : (view : View) (r : PendingRecord) → record_at start old member key tx ≡ Some r → hold_was ≡ true
        → holds tx (at_key key (installed rows_old view).lqh) ≡ true
    install_holds view r is held =
        ap (holds tx) (installations_are_events rows_old view key well_old)
        ∙ left_enough (goes_on_holding rows_old.lqh.rows view.full key) tx Exclusive
        (replica_at start old member key).lock.holders
        (or_left (is_some (record_state rows_old.lqh.rows tx key)) (is_coordinated view.full tx)
        (ap is_some (state_found rows_old.lqh.rows tx key ∙ ap state_by is))) held

    held_old : IsHeld tx (replica_at start old member key)
    held_old h = stood.commits.prepared member was_among key tx h.own h.there h.still

    held_installed : (view : View) → IsHeld tx (at_key key (installed rows_old view).lqh)
    held_installed view h = install_holds view h.own h.there (held_old h)

    module _ (s : ReplicaState) (between : IsBetween start all e es moment member there s)
        (taken : IsTakenAt start all e es moment member there s)
      where
        abbrev takes_own : TakesNow start all e es moment member there
        takes_own = record { rows = s; between = between; taken = taken; at = taken.at; now = taken.now }

        abbrev r : Replica
        r = at_key key s.lqh

        well_s : IsWell s.lqh
        well_s = well start all e es moment member there takes_own

        cell_s : r.cell ≡ (replica_at start old member key).cell
        cell_s = cell_before start all e es moment member there takes_own key

        orderly_s : IsOrderly r.lock
        orderly_s = well_s.orderly.each key

        held_s : IsHeld tx r
        held_s =
            as_before start all e es moment member there takes_own (λ s. IsHeld tx (at_key key s.lqh)) held_old
            held_installed

        now_is : replica_at start new member key ≡ key_after (event_under key s x) r
        now_is =
            ap (λ (s : ReplicaState). at_key key s.lqh) taken.rows_are ∙ signals_are_events s x key well_s

        -- no completion of what is prepared
        no_completion : (chain : List Member) (at : ℕ) → x.body ≡ Chain (Complete tx key chain at)
            → HasPrepared tx r.cell.pending → ⊥
        no_completion chain at about h =
            true≢false (sym done_here
            ∙ (ap (is_committed_by (has_marker_at start old member key tx || is_known start old tx)) was ∙ still))
          where
            was : record_at start old member key tx ≡ Some h.own
            was = sym (ap (λ (c : Cell). found tx c.pending) cell_s) ∙ h.there

            still : h.own.committed ≡ false
            still = h.still

            kept : IsKeptForth start all e es moment taken.now (Complete tx key chain at) about forth stood.spoken tx
            kept =
                complete_kept start all e es moment taken.now (Complete tx key chain at) about forth stood.spoken tx
                key chain at
                refl

            done_here : is_committed_at start old member key tx ≡ true
            done_here =
                (complete_done forth start all e es moment remembered acknowledged stood member there takes_own tx key
                chain at about
                key (stood.commits.records tx kept.kept member there key h.own was).0).committed member
                (complete_place start all e es moment member there takes_own tx key chain at about)

        fair_at : (body : Body) → x.body ≡ body → IsFair tx r (event_at key s.lqh body)
        fair_at (Chain (Complete u own chain at)) is = by (same_key own key) refl
          where
            by : (b : Bool) → same_key own key ≡ b → IsFair tx r (if b then completes u else rests)
            by false e = tt
            by true e =
                λ own_tx. no_completion chain at
                (is ∙ (λ i. Chain (Complete (same_tx-is u tx own_tx i) (same own key e i) chain at)))
        fair_at (Chain (LqhKeyReq u asked chain at)) is =
            on_so (IsFair tx r) (work_key asked) key
            (asks (record { tx = u; work = asked; chain = chain; at = at })
            (is_refused (storage_of s.lqh) (record { tx = u; work = asked; chain = chain; at = at }))) tt tt
        fair_at (Chain (Commit u own epoch chain at)) is = on_so (IsFair tx r) own key (commits u (at == 0)) tt tt
        fair_at (Chain (Abort u own)) is = on_so (IsFair tx r) own key (aborts u) tt tt
        fair_at (Host (Continue work.Granted at)) is = by (first (is_granted s.lqh.locks) s.lqh.waiting)
          where
            by : (o : Option Request) → IsFair tx r (serves_if key s.lqh o)
            by None = tt
            by (Some q) = on_so (IsFair tx r) (work_key q.work) key (serves (is_refused (storage_of s.lqh) q)) tt tt
        fair_at (Host Round) is = tt
        fair_at (Host (Continue work.Expired at)) is = by (expired s.lqh.locks)
          where
            by : (o : Option (TxId × List ℕ)) → IsFair tx r (expires_if key o)
            by None = tt
            by (Some wait) = on_so (IsFair tx r) wait.1 key (expires wait.0) tt tt
        fair_at body is = tt

        fair : IsFair tx r (event_under key s x)
        fair = by (under_is key s x)
          where
            by : (event_under key s x ≡ rests) ⊎ (event_under key s x ≡ event_at key s.lqh x.body)
                → IsFair tx r (event_under key s x)
            by (inl is) = subst (IsFair tx r) (sym is) tt
            by (inr is) = subst (IsFair tx r) (sym is) (fair_at x.body refl)

        taken_held : IsHeld tx (replica_at start new member key)
        taken_held =
            subst (IsHeld tx) (sym now_is)
            (prepared_after tx (event_under key s x) r orderly_s
            (subst (λ (c : Cell). AreOnce c.pending) (sym cell_s)
            (rows_once start moment.cluster.nobody member there (old (ldm_of start member)) key))
            (attended_between forth start all e es moment member there key s between taken
            (rows_attended forth start all es before member there key)) fair held_s)

        -- if it holds the lock before, and not behind, it lets go of it
        lets_go_now : holds tx r ≡ true → holds tx (replica_at start new member key) ≡ false → LetsGo tx key x.body
        lets_go_now held gone = by (lets_go tx (event_under key s x)) refl
          where
            from_event : (event_under key s x ≡ rests) ⊎ (event_under key s x ≡ event_at key s.lqh x.body)
                → lets_go tx (event_under key s x) ≡ true → LetsGo tx key x.body
            from_event (inl is) lets = absurd (true≢false (sym lets ∙ ap (lets_go tx) is))
            from_event (inr is) lets = lets_go_by tx key s.lqh x.body (sym (ap (lets_go tx) is) ∙ lets)

            by : (b : Bool) → lets_go tx (event_under key s x) ≡ b → LetsGo tx key x.body
            by true lets = from_event (under_is key s x) lets
            by false stays =
                absurd (true≢false (sym (ap (holds tx) now_is
                ∙ hold_after tx (event_under key s x) r orderly_s stays held)
                ∙ gone))

    -- so whoever has something prepared holds the lock
    pub prepared_now : (r : PendingRecord) → record_at start (logs_of start (e ∷ es)) member key tx ≡ Some r
        → r.committed ≡ false
        → holds_enough tx Exclusive (replica_at start (logs_of start (e ∷ es)) member key).lock.holders ≡ true
    prepared_now r is still = by (rows_go start all e es moment member there)
        (record { own = r; there = is; still = still })
      where
        by : RowsGo start all e es moment member there → IsHeld tx (replica_at start new member key)
        by (rest is quiet) = subst (λ (s : ReplicaState). IsHeld tx (at_key key s.lqh)) (sym is) held_old
        by (enter view is quiet) =
            subst (λ (s : ReplicaState). IsHeld tx (at_key key s.lqh)) (sym is) (held_installed view)
        by (take s between taken) = taken_held s between taken

    -- and whoever has let go of it, being committed, is so everywhere
    module _ (r : PendingRecord) (is : record_at start (logs_of start (e ∷ es)) member key tx ≡ Some r)
        (done : r.committed ≡ true)
        (off : holds_enough tx Exclusive (replica_at start (logs_of start (e ∷ es)) member key).lock.holders ≡ false)
      where
        gone : is_forth start old tx ≡ true
        gone = trace_before forth start all e es moment member there key tx (committed_there r is done)

        written : HasWritten start old tx key
        written =
            written_before start all e es moment tx key (forth_decided start all es before tx gone)
            (written_now forth start all e es moment remembered acknowledged stood member there key tx
            (committed_there r is done))

        stays : IsCommittedAtAll start old tx key → IsCommittedAtAll start new tx key
        stays was = at_all_stays forth remembered acknowledged start all e es moment tx key was

        was_free : (own : PendingRecord) → record_at start old member key tx ≡ Some own → own.committed ≡ true
            → hold_was ≡ false → IsCommittedAtAll start new tx key
        was_free own own_is so free = stays (stood.commits.let_go member was_among key tx own own_is so free)

        -- the record before
        first_case : (own : PendingRecord) → record_at start old member key tx ≡ Some own → (b : Bool)
            → own.committed ≡ b → (hold_was ≡ false) → IsCommittedAtAll start new tx key
        first_case own own_is true so free = was_free own own_is so free
        first_case own own_is false still free =
            absurd (true≢false (sym (stood.commits.prepared member was_among key tx own own_is still) ∙ free))

        goes : RecordGoes start all e es moment member there key tx
        goes =
            (key_goes start all e es moment member there key tx (forth_calm start all es before tx gone)).record_goes

        -- it had a record
        had_record : (own : PendingRecord) × (record_at start old member key tx ≡ Some own)
        had_record = by_record goes (record_at start old member key tx) refl
          where
            from_none : (f : PendingRecord → Option PendingRecord)
                → record_at start new member key tx ≡ now_by f (record_at start old member key tx)
                → record_at start old member key tx ≡ None
                → (own : PendingRecord) × (record_at start old member key tx ≡ Some own)
            from_none f now none =
                absurd (let both : None ≡ Some r = sym (now ∙ ap (now_by f) none) ∙ is in cc)

            by_record : RecordGoes start all e es moment member there key tx → (o : Option PendingRecord)
                → record_at start old member key tx ≡ o
                → (own : PendingRecord) × (record_at start old member key tx ≡ Some own)
            by_record moves (Some own) own_is = (own, own_is)
            by_record (record_stays now) None none = (r, sym now ∙ is)
            by_record (is_committed takes epoch chain at about now) None none = from_none as_committed now none
            by_record (is_completed takes chain at about now) None none = from_none unless_committed now none
            by_record (is_aborted takes about now) None none = from_none if_committed now none

        -- which was committed, where an abort is taken
        was_committed : x.body ≡ Chain (Abort tx key)
            → (own : PendingRecord) × ((record_at start old member key tx ≡ Some own) × (own.committed ≡ true))
        was_committed abort = by_record goes
          where
            if_so : (own : PendingRecord) → record_at start old member key tx ≡ Some own → (b : Bool)
                → own.committed ≡ b → (if b then Some own else None) ≡ Some r
                → (own : PendingRecord) × ((record_at start old member key tx ≡ Some own) × (own.committed ≡ true))
            if_so own own_is true so left = (own, (own_is, so))
            if_so own own_is false so left = absurd cc

            by_record : RecordGoes start all e es moment member there key tx
                → (own : PendingRecord) × ((record_at start old member key tx ≡ Some own) × (own.committed ≡ true))
            by_record (record_stays now) = (r, (sym now ∙ is, done))
            by_record (is_committed takes epoch chain at about now) =
                absurd (let both : Chain (Abort tx key) ≡ Chain (Commit tx key epoch chain at) = sym abort ∙ about in
                cc)
            by_record (is_completed takes chain at about now) =
                absurd (let both : Chain (Abort tx key) ≡ Chain (Complete tx key chain at) = sym abort ∙ about in cc)
            by_record (is_aborted takes about now) =
                let own = had_record in
                if_so own.0 own.1 own.0.committed refl (sym (now ∙ ap (now_by if_committed) own.1) ∙ is)

        module _ (s : ReplicaState) (between : IsBetween start all e es moment member there s)
            (taken : IsTakenAt start all e es moment member there s)
          where
            abbrev takes_s : TakesNow start all e es moment member there
            takes_s = record { rows = s; between = between; taken = taken; at = taken.at; now = taken.now }

            let_go : LetsGo tx key x.body → IsCommittedAtAll start new tx key
            let_go (by_commit epoch chain at first about) =
                at_all_first forth remembered acknowledged whole start all e es moment stood member there takes_s tx key
                epoch
                chain at about written first
            let_go (by_completion chain at about) =
                stays (complete_done forth start all e es moment remembered acknowledged stood member there takes_s tx
                key chain
                at about key written)
            let_go (by_abort about) =
                let was = was_committed about in
                absurd (let both : fate_commits ≡ fate_aborts =
                sym (record_commits forth start all es before member was_among key tx was.0 was.1.0 was.1.1)
                ∙ abort_aborts start all e es moment taken.now (Abort tx key) about forth stood.spoken tx key refl in
                cc)

            taken_case : (b : Bool) → holds tx (at_key key s.lqh) ≡ b → IsCommittedAtAll start new tx key
            taken_case true held = let_go (lets_go_now s between taken held off)
            taken_case false free =
                let own = had_record in first_case own.0 own.1 own.0.committed refl (was_off between)
              where
                was_off : IsBetween start all e es moment member there s → hold_was ≡ false
                was_off (as_was is stays_in) = sym (ap (λ (s : ReplicaState). holds tx (at_key key s.lqh)) is) ∙ free
                was_off (entered view is) = by_hold hold_was refl
                  where
                    by_hold : (b : Bool) → hold_was ≡ b → b ≡ false
                    by_hold false e = refl
                    by_hold true held =
                        let own = had_record in
                        absurd (true≢false (sym (ap (λ (s : ReplicaState). holds tx (at_key key s.lqh)) is
                        ∙ install_holds view own.0 own.1 held) ∙ free))

        by : RowsGo start all e es moment member there → IsCommittedAtAll start new tx key
        by (rest is_same quiet) =
            was_free r (sym (ap (λ (s : ReplicaState). found tx (at_key key s.lqh).cell.pending) is_same) ∙ is) done
            (sym (ap (λ (s : ReplicaState). holds tx (at_key key s.lqh)) is_same) ∙ off)
        by (enter view is_installed quiet) = by_hold hold_was refl
          where
            was : record_at start old member key tx ≡ Some r
            was = sym (ap (λ (s : ReplicaState). found tx (at_key key s.lqh).cell.pending) is_installed) ∙ is

            by_hold : (b : Bool) → hold_was ≡ b → IsCommittedAtAll start new tx key
            by_hold false free = was_free r was done free
            by_hold true held =
                absurd (true≢false (sym (ap (λ (s : ReplicaState). holds tx (at_key key s.lqh)) is_installed
                ∙ install_holds view r was held) ∙ off))
        by (take s between taken) = taken_case s between taken (holds tx (at_key key s.lqh)) refl

        pub let_go_now : IsCommittedAtAll start (logs_of start (e ∷ es)) tx key
        let_go_now = by (rows_go start all e es moment member there)
