-- What comes to a key at its replicas is fair to it.
use Rattle.std.proofs.Common.{◌≡◌, ◌⊎◌, ◌||◌, ◌==◌, ◌≤◌, ◌∙◌, ℕ, Bool, true, false, List, [], ◌∷◌, filter, map}
use Rattle.std.proofs.Common.{refl, sym, ap, subst, inl, inr, arith}
use Rattle.std.proofs.lemmas.Bool.{and_left, and_right, eq-eqb, true≢false}
use Rattle.std.specs.Prelude.{if◌then◌else◌, Option, None, Some}
use Rattle.run_theory.proofs.Pasts.{each_filter, each_from, each_map, past_less}
use Rattle.run_theory.specs.Lists.{Each, IsIn}
use Rattle.run_theory.proofs.EventCases.{event_cases}
use Rattle.row_locks.specs.Rounds.{expired}
use Rattle.sig_core.proofs.Keys.{same_tx-self}
use Rattle.row_records.proofs.KeyLemmas.{same}
use Rattle.sig_core.specs.declared.member.Member.{Member}
use Rattle.sig_core.specs.declared.member.TxId.{TxId}
use Rattle.sig_core.specs.declared.rows.PendingRecord.{PendingRecord}
use Rattle.sig_core.specs.declared.signal.Body.{Body}
use Rattle.sig_core.specs.declared.signal.Body.TheVariants.{Chain, Host}
use Rattle.sig_core.specs.declared.signal.Signal.{Signal}
use Rattle.sig_core.specs.declared.signal.chain.ChainSignal.TheVariants.{Abort, Commit, Complete, LqhKeyReq}
use Rattle.sig_core.specs.declared.signal.host.HostSignal.TheVariants.{Continue, Round}
use Rattle.sig_core.specs.declared.signal.host.Work.TheVariants as work
use Rattle.sig_core.specs.declared.view.View.{View}
use Rattle.sig_core.specs.Firsts.{first}
use Rattle.sig_core.specs.Rows.{is_on}
use Rattle.sig_core.specs.Same.{same_key, same_tx}
use Rattle.sig_core.specs.Work.{work_key}
use Rattle.lqh_block.specs.declared.request.Request.{Request}
use Rattle.lqh_block.specs.Operate.{is_granted}
use Rattle.lqh_block.specs.State.{storage_of}
use Rattle.lqh_views.specs.State.{ReplicaState}
use Rattle.key_laws.specs.Backup.{kept_of}
use Rattle.key_laws.specs.Primary.{HasPrepared}
use Rattle.key_laws.specs.Records.{found, without_epoch}
use Rattle.key_laws.specs.Replica.{Cell, Event, Replica, aborts, asks, asks_for, at_key, commits, completes, event_at}
use Rattle.key_laws.specs.Replica.{expires, expires_if, if_on, is_refused, rests, serves, serves_if}
use Rattle.key_laws.proofs.RecordLemmas.{each_found}
use Rattle.node_views.specs.declared.parts.Parts.TheVariants as part
use Rattle.world_core.specs.Marks.{has_mark}
use Rattle.world_core.specs.Start.{Start, made}
use Rattle.world_core.specs.Steps.{Addressed, HostStep}
use Rattle.world_views.specs.Machine.{machine}
use Rattle.run_laws.specs.Tokens.{is_token}
use Rattle.view_laws.specs.Runs.{view_after}
use Rattle.moment_laws.specs.Moments.{IsMoment, logs_of}
use Rattle.moment_laws.specs.Places.{ldm_of, tc_of}
use Rattle.moment_laws.proofs.MomentTurns.{current_rises}
use Rattle.moment_laws.proofs.MomentViews.{current_above, moment_less}
use Rattle.outcome_laws.specs.Counts.{coordinator_member, is_decision}
use Rattle.outcome_laws.specs.Known.{IsDecidedIf}
use Rattle.request_laws.specs.Replicas.{event_under}
use Rattle.request_laws.specs.Tokens.{count_waiting, may_go, number_now, waiting_at}
use Rattle.request_laws.proofs.routes.PartSteps.{ldm_step, tc_step}
use Rattle.request_laws.proofs.tokens.Alone.{waiting_alone}
use Rattle.request_laws.proofs.tokens.HostsApart.{ldm_low}
use Rattle.request_laws.proofs.routes.ChainsStay.{any_in}
use Rattle.commit_laws.specs.Commits.{ComesWhenDone}
use Rattle.commit_laws.specs.Forth.{ForthIsKnownAlways, IsForth}
use Rattle.commit_laws.specs.Going.{is_back, is_decided, is_forth}
use Rattle.commit_laws.specs.Led.{IsFairTo, IsUnkept}
use Rattle.commit_laws.specs.Owed.{AbortedAreNotFinal, AppliedAreFinal, FinalsGoForward, IsAlong}
use Rattle.commit_laws.specs.Together.{AllStand, AllStandAlways}
use Rattle.commit_laws.specs.Traces.{IsCommittedAtAll, IsReplicaOf, has_marker_at, is_committed_by, is_known, record_at}
use Rattle.commit_laws.specs.Traces.{replica_at, rows_at}
use Rattle.commit_laws.specs.Values.{decided_at, is_final}
use Rattle.commit_laws.proofs.fates.Committed.{calm_stops, decided_calm, decided_made, forth_calm, token_alone}
use Rattle.commit_laws.proofs.commits.Places.{cell_before}
use Rattle.commit_laws.proofs.forth.DecidedStay.{decided_more}
use Rattle.commit_laws.proofs.records.KeyGoes.{TakesNow}
use Rattle.commit_laws.proofs.led.Entries.{any_counts}
use Rattle.commit_laws.proofs.led.Replicas.{moment_at}
use Rattle.commit_laws.proofs.records.Attended.{on_so, under_is}
use Rattle.commit_laws.proofs.hosts.RowsTurn.{IsBetween, IsTakenAt, as_was, entered}
use Rattle.commit_laws.proofs.links.TakenChains.{IsKeptForth, abort_aborts, chain_told, commit_kept, complete_kept}

module _ (start : Start) (all : ℕ → List HostStep) (es : List HostStep) (moment : IsMoment start all es) where
  -- for whom something may be asked isn't kept: it isn't decided, or was given up
  pub may_unkept : (decided final : TxId → Bool) (tx : TxId)
      → (decided tx ≡ true → is_decided start (logs_of start es) tx ≡ true)
      → (final tx ≡ true → is_back start (logs_of start es) tx ≡ false)
      → (IsIn (coordinator_member tx) (made start) → (number : ℕ) × (may_go start (logs_of start es) tx number ≡ true))
      → kept_of decided final tx ≡ false
  may_unkept decided final tx was forward may = by (decided tx) refl (final tx) refl
    where
      by : (a : Bool) → decided tx ≡ a → (b : Bool) → final tx ≡ b → kept_of decided final tx ≡ false
      by false e b f = and_left (decided tx) (final tx) e
      by true e false f = and_right (decided tx) (final tx) f
      by true e true f =
          let calm = decided_calm start all es moment tx (was e) (forward f) in
          let goes = may calm.made in
          absurd (true≢false (sym goes.1 ∙ calm_stops start all es moment tx goes.0 calm))

  -- nor was it committed
  pub may_not_forth : (tx : TxId)
      → (IsIn (coordinator_member tx) (made start) → (number : ℕ) × (may_go start (logs_of start es) tx number ≡ true))
      → is_forth start (logs_of start es) tx ≡ true → ⊥
  may_not_forth tx may forth =
      let calm = forth_calm start all es moment tx forth in
      let goes = may calm.made in
      true≢false (sym goes.1 ∙ calm_stops start all es moment tx goes.0 calm)

-- what is so of each record is so of each on a key, where its epoch makes no difference
each_epochless : (P : PendingRecord → Type 0) (xs : List PendingRecord) →
    ((r : PendingRecord) → P r → P (without_epoch r))
    → Each P xs → Each P (map without_epoch xs)
each_epochless P [] same all = tt
each_epochless P (r ∷ xs) same all = (same r all.0, each_epochless P xs same all.1)

module _ (forth : ForthIsKnownAlways) (stand : AllStandAlways) (forward : FinalsGoForward) (applied : AppliedAreFinal)
    (aborted : AbortedAreNotFinal) (start : Start) (all : ℕ → List HostStep) (end : List HostStep) (e : HostStep)
    (es : List HostStep) (along : IsAlong start all end (e ∷ es)) (member : Member) (there : IsIn member (made start))
    (key : List ℕ) (replica : IsReplicaOf start (logs_of start es) key member) where
  abbrev pub old : ℕ → List HostStep
  old = logs_of start es

  abbrev pub decided : TxId → Bool
  decided = decided_at start end (e ∷ es)

  abbrev pub final : TxId → Bool
  final = is_final start end

  abbrev pub moment : IsMoment start all (e ∷ es)
  moment = moment_at start all end (e ∷ es) along

  before : IsMoment start all es
  before = moment_less start all e es moment

  along_old : IsAlong start all end es
  along_old = record { moment = along.moment; past = past_less e along.past }

  stood : AllStand start es
  stood = stand start all es before

  module _ (s : ReplicaState) (between : IsBetween start all e es moment member there s)
      (taken : IsTakenAt start all e es moment member there s) where
    abbrev pub x : Signal
    x = e.step.taken

    abbrev pub r : Replica
    r = at_key key s.lqh

    abbrev takes : TakesNow start all e es moment member there
    takes = record { rows = s; between = between; taken = taken; at = taken.at; now = taken.now }

    cell_is : r.cell ≡ (replica_at start old member key).cell
    cell_is = cell_before start all e es moment member there takes key

    -- who is decided was so before: the host runs rows, and no coordinator
    was_decided : (v : TxId) → decided v ≡ true → is_decided start old v ≡ true
    was_decided v is =
        event_cases (machine start) e es (tc_of start (coordinator_member v))
        (λ log. has_mark (is_decision v) log ≡ true → is_decided start old v ≡ true)
        (λ at here.
        let rows = ldm_step start along.moment.cluster.nobody member there e.host taken.at (old e.host) e in
        let coordinates =
        tc_step start along.moment.cluster.nobody (coordinator_member v) (decided_made start all (e ∷ es) moment v is)
        e.host at (old e.host) e in
        absurd (let both : part.Ldm rows.own ≡ part.Tc coordinates.own = sym rows.runs ∙ coordinates.runs in cc))
        (λ off was. was) is

    now_decided : (v : TxId) → is_decided start old v ≡ true → decided v ≡ true
    now_decided v is = decided_more start all e es moment v is

    -- what is committed here is known to be
    abbrev IsKnown : PendingRecord → Type 0
    IsKnown y = y.committed ≡ true → is_forth start old y.tx ≡ true

    known_here : Each IsKnown (replica_at start old member key).cell.pending
    known_here =
        each_epochless IsKnown (filter (is_on key) (rows_at start old member).lqh.rows.pending) (λ y known. known)
        (each_filter IsKnown (is_on key) (rows_at start old member).lqh.rows.pending
        (each_map
        (λ (y : PendingRecord). IsDecidedIf (λ tx epoch. IsForth start old tx) (IsForth start old) y y.committed)
        IsKnown (rows_at start old member).lqh.rows.pending
        (λ y known done. subst (IsDecidedIf (λ tx epoch. IsForth start old tx) (IsForth start old) y) done known)
        ((forth start all es before).rows member there).records))

    -- of whom something is asked
    abbrev May : TxId → Type 0
    May tx = IsIn (coordinator_member tx) (made start) → (number : ℕ) × (may_go start old tx number ≡ true)

    asked_unkept : (tx : TxId) → May tx → IsUnkept decided final r.cell.pending tx
    asked_unkept tx may = record {
      unkept =
          may_unkept start all es before decided final tx (was_decided tx) (forward start all end es along_old tx) may;
      plain = λ y is. plain y (subst (λ (c : Cell). found tx c.pending ≡ Some y) cell_is is) y.committed refl;
    }
      where
        plain : (y : PendingRecord) → found tx (replica_at start old member key).cell.pending ≡ Some y → (b : Bool)
            → y.committed ≡ b → b ≡ false
        plain y is false e = refl
        plain y is true e =
            let one = each_found IsKnown tx (replica_at start old member key).cell.pending y known_here is in
            absurd (may_not_forth start all es before tx may (ap (is_forth start old) (sym one.1) ∙ one.0 e))

    token_may : (tx : TxId) → is_token tx x.body ≡ true → May tx
    token_may tx is own = (
      number_now start (logs_of start (e ∷ es)),
      (token_alone start all e es moment member there tx own taken.now is).may,
    )

    waiting_may : (q : Request) → IsIn q s.lqh.waiting → May q.tx
    waiting_may q inside own = by between
      where
        by : IsBetween start all e es moment member there s → (number : ℕ) × (may_go start old q.tx number ≡ true)
        by (entered view is) =
            absurd (subst (λ (s : ReplicaState). IsIn q s.lqh.waiting) is inside)
        by (as_was is stays) =
            (number_now start old, (waiting_alone start all es before q.tx own member there counted).may)
          where
            number : ℕ
            number = (view_after start (ldm_of start member) (old (ldm_of start member))).number

            stood_now : number ≡ number_now start (logs_of start (e ∷ es))
            stood_now =
                sym (ap (λ (v : View). v.number) stays)
                ∙ ap (λ k. (view_after start k (e ∷ old k)).number) (sym taken.at)
                ∙ ap (λ (v : View). v.number) taken.now.stands

            same : number ≡ number_now start old
            same =
                let up = current_above start old along.moment.cluster.nobody (ldm_of start member)
                (ldm_low start along.moment.cluster.nobody member there) in
                let rises = current_rises start all e es moment in
                omega (arith, up, rises, stood_now)

            some : 1 ≤ count_waiting q.tx (rows_at start old member)
            some =
                any_counts (λ (one : Request). same_tx one.tx q.tx) (rows_at start old member).lqh.waiting
                (any_in (λ (one : Request). same_tx one.tx q.tx) q (rows_at start old member).lqh.waiting
                (subst (λ (s : ReplicaState). IsIn q s.lqh.waiting) is inside) (same_tx-self q.tx))

            counted : 1 ≤ waiting_at start old q.tx (number_now start old) member
            counted =
                subst (λ n. 1 ≤ n)
                (sym (ap (λ b. if b then count_waiting q.tx (rows_at start old member) else 0)
                (eq-eqb number (number_now start old) same))) some

    waiting_unkept : Each (λ (q : Request). IsUnkept decided final r.cell.pending q.tx) r.waiting
    waiting_unkept =
        each_filter (λ (q : Request). IsUnkept decided final r.cell.pending q.tx) (asks_for key) s.lqh.waiting
        (each_from (λ (q : Request). IsUnkept decided final r.cell.pending q.tx) s.lqh.waiting
        (λ q inside. asked_unkept q.tx (waiting_may q inside)))

    -- a completion is of one that is done
    completed : (tx : TxId) (chain : List Member) (at : ℕ) → x.body ≡ Chain (Complete tx key chain at)
        → IsFairTo decided final r (completes tx)
    completed tx chain at is y found_y = (is_committed, applied start all end es along_old tx key all_done.applied)
      where
        there_y : record_at start old member key tx ≡ Some y
        there_y = subst (λ (c : Cell). found tx c.pending ≡ Some y) cell_is found_y

        kept : IsKeptForth start all e es moment taken.now (Complete tx key chain at) is forth stood.spoken tx
        kept =
            complete_kept start all e es moment taken.now
            (Complete tx key chain at) is forth stood.spoken tx key chain at refl

        all_done : IsCommittedAtAll start old tx key
        all_done =
            subst (ComesWhenDone start old) is
            (chain_told start all e es moment taken.now (Complete tx key chain at) is
            (λ (y : Addressed). ComesWhenDone start old y.signal.body) stood.commits.done)
            key (stood.commits.records tx kept.kept member there key y there_y).0

        is_committed : y.committed ≡ true
        is_committed =
            subst (λ o. is_committed_by
            (has_marker_at start old member key tx || is_known start old tx) o ≡ true) there_y
            (all_done.committed member replica)

    given_up : (tx : TxId) → x.body ≡ Chain (Abort tx key) → IsFairTo decided final r (aborts tx)
    given_up tx is prepared =
        and_right (decided tx) (final tx)
        (aborted start all end es along_old key member replica tx
        (abort_aborts start all e es moment taken.now (Abort tx key) is forth stood.spoken tx key refl)
        (subst (λ (c : Cell). HasPrepared tx c.pending) cell_is prepared))

    on_own : (P : Event → Type 0) (own : List ℕ) (event : Event) → P rests → (own ≡ key → P event) → P
        (if_on own key event)
    on_own P own event none is = by (same_key own key) refl
      where
        by : (b : Bool) → same_key own key ≡ b → P (if b then event else rests)
        by true e = is (same own key e)
        by false apart = none

    fair_event : (body : Body) → x.body ≡ body → IsFairTo decided final r (event_at key s.lqh body)
    fair_event (Chain (LqhKeyReq tx asked chain at)) is =
        on_so (IsFairTo decided final r) (work_key asked) key
        (asks (record { tx = tx; work = asked; chain = chain; at = at })
        (is_refused (storage_of s.lqh) (record { tx = tx; work = asked; chain = chain; at = at }))) tt
        (asked_unkept tx (token_may tx (ap (is_token tx) is ∙ same_tx-self tx)))
    fair_event (Chain (Commit tx own epoch chain at)) is =
        on_so (IsFairTo decided final r) own key (commits tx (at == 0)) tt
        (λ prepared. now_decided tx
        (commit_kept start all e es moment taken.now
        (Commit tx own epoch chain at) is forth stood.spoken tx own epoch chain at
        refl).kept.decided)
    fair_event (Chain (Complete tx own chain at)) is =
        on_own (IsFairTo decided final r) own (completes tx) tt
        (λ same. completed tx chain at (is ∙ ap (λ k. Chain (Complete tx k chain at)) same))
    fair_event (Chain (Abort tx own)) is =
        on_own (IsFairTo decided final r) own (aborts tx) tt
        (λ same. given_up tx (is ∙ ap (λ k. Chain (Abort tx k)) same))
    fair_event (Host (Continue work.Granted at)) is = by (first (is_granted s.lqh.locks) s.lqh.waiting)
      where
        by : (o : Option Request) → IsFairTo decided final r (serves_if key s.lqh o)
        by None = tt
        by (Some q) =
            on_so (IsFairTo decided final r) (work_key q.work) key
            (serves (is_refused (storage_of s.lqh) q)) tt waiting_unkept
    fair_event (Host Round) is = tt
    fair_event (Host (Continue work.Expired at)) is = by (expired s.lqh.locks)
      where
        by : (o : Option (TxId × List ℕ)) → IsFairTo decided final r (expires_if key o)
        by None = tt
        by (Some wait) = on_so (IsFairTo decided final r) wait.1 key (expires wait.0) tt tt
    fair_event body is = tt

    pub fair_now : IsFairTo decided final r (event_under key s x)
    fair_now = by (under_is key s x)
      where
        by : (event_under key s x ≡ rests) ⊎ (event_under key s x ≡ event_at key s.lqh x.body)
            → IsFairTo decided final r (event_under key s x)
        by (inl is) = subst (IsFairTo decided final r) (sym is) tt
        by (inr is) = subst (IsFairTo decided final r) (sym is) (fair_event x.body refl)
