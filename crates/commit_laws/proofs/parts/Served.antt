-- The parts of a transaction's operations behind an event at which rows perform a request of it that waited, in the
-- current view.
use Rattle.std.proofs.Common.{◌≡◌, ◌≢◌, ◌⊎◌, ◌≤◌, ◌+◌, ◌==◌, ◌∙◌, ℕ, Bool, true, false, List, ◌∷◌, eq-eqb, refl, sym}
use Rattle.std.proofs.Common.{ap, subst, arith}
use Rattle.std.proofs.lemmas.Bool.{true≢false}
use Rattle.std.specs.List.{count_by, slice_get}
use Rattle.std.specs.Prelude.{if◌then◌else◌, Option, None, Some}
use Rattle.run_theory.proofs.Pasts.{each_map}
use Rattle.run_theory.proofs.Runs.{log_of-other}
use Rattle.run_theory.specs.Lists.{Each, IsIn}
use Rattle.run_theory.proofs.EventCases.{event_cases}
use Rattle.frag_map.specs.Layout.{chain_of}
use Rattle.sig_core.specs.Chain.{node_of}
use Rattle.sig_core.specs.declared.member.Member.{Member}
use Rattle.sig_core.specs.declared.member.TxId.{TxId}
use Rattle.sig_core.specs.declared.place.Place.{Place}
use Rattle.sig_core.specs.declared.signal.Body.TheVariants.{Host}
use Rattle.sig_core.specs.declared.signal.Signal.{Signal}
use Rattle.sig_core.specs.declared.signal.host.HostSignal.TheVariants.{Continue}
use Rattle.sig_core.specs.declared.signal.host.Work.TheVariants as work
use Rattle.sig_core.specs.declared.view.View.{View}
use Rattle.sig_core.specs.Firsts.{drop_first, first}
use Rattle.sig_core.specs.Place.{rows_of}
use Rattle.sig_core.specs.Same.{same_key, same_tx}
use Rattle.sig_core.specs.Work.{work_key}
use Rattle.sig_core.proofs.Keys.{same_key-self, same_tx-self}
use Rattle.tc_block.specs.declared.transaction.Transaction.{Transaction}
use Rattle.row_records.proofs.KeyLemmas as index
use Rattle.lqh_block.specs.declared.request.Request.{Request}
use Rattle.lqh_block.specs.Operate.{is_granted}
use Rattle.lqh_block.specs.State.{storage_of}
use Rattle.lqh_views.specs.Replica.{installed, is_stale}
use Rattle.lqh_views.specs.State.{ReplicaState}
use Rattle.key_laws.specs.Replica.{Replica, asks_for, at_key, event_at, if_on, is_let_in, is_refused, key_after, rests}
use Rattle.key_laws.specs.Replica.{served_by, serves, serves_if}
use Rattle.key_laws.proofs.KeyAfter.{first_here}
use Rattle.key_laws.proofs.Waiting.{each-first_item}
use Rattle.run_laws.proofs.transit.Weighing.{joined_each}
use Rattle.run_laws.specs.Tokens.{is_token}
use Rattle.world_core.specs.Start.{Start, made}
use Rattle.world_core.specs.Steps.{Addressed, HostStep}
use Rattle.world_views.specs.Machine.{machine}
use Rattle.view_laws.specs.Runs.{view_after}
use Rattle.view_laws.proofs.runs.FirstMembers.{made_same}
use Rattle.moment_laws.specs.Moments.{IsMoment, current, logs_of}
use Rattle.moment_laws.specs.Places.{ldm_of}
use Rattle.moment_laws.proofs.MomentViews.{moment_less}
use Rattle.outcome_laws.proofs.coordinators.Lists.{none_passes}
use Rattle.request_laws.specs.Blocks.{rows_after}
use Rattle.request_laws.specs.Replicas.{event_by, event_if}
use Rattle.request_laws.specs.Routed.{IsGivenUp, WasAskedIn, WasDrivenIn, layout_in}
use Rattle.request_laws.specs.Routes.{IsRequestRouted, WaitsRouted}
use Rattle.request_laws.specs.Tokens.{WaitsAlone, count_waiting, is_token_in, number_now, waiting_at}
use Rattle.request_laws.proofs.replicas.KeyEvents.{signals_are_events}
use Rattle.request_laws.proofs.routes.All.{signals_are_routed}
use Rattle.request_laws.proofs.routes.Places.{rows_know_node}
use Rattle.request_laws.proofs.tokens.Alone.{waiting_alone}
use Rattle.request_laws.proofs.tokens.HostsApart.{ldm_same}
use Rattle.request_laws.proofs.tokens.RowHosts.{filter_count}
use Rattle.commit_laws.specs.Fates.{is_led_by_full}
use Rattle.commit_laws.specs.Parts.{IsHale, PartsStand, Tells, Told, part_of, performs}
use Rattle.commit_laws.specs.Together.{Follows}
use Rattle.commit_laws.specs.Traces.{replica_at, rows_at}
use Rattle.commit_laws.specs.Transit.{AreInTransit, Takes}
use Rattle.commit_laws.proofs.commits.Places.{At, in_at, within_at}
use Rattle.commit_laws.proofs.fates.Going.{each_passing, hale_made}
use Rattle.commit_laws.proofs.records.MemberKeeps.{between_keeps}
use Rattle.commit_laws.proofs.parts.Own.{PartsOf, sent_now}
use Rattle.commit_laws.proofs.parts.Request.{each_if}
use Rattle.commit_laws.proofs.parts.Rests.{rests_stay}
use Rattle.commit_laws.proofs.parts.Serves.{served_told}
use Rattle.commit_laws.proofs.parts.Quiet.{closing_off, no_part, not_and}
use Rattle.commit_laws.proofs.records.Replicas.{chain_replica, replica_made}
use Rattle.commit_laws.proofs.hosts.RowsTurn.{IsBetween, IsTakenAt, as_was, entered}
use Rattle.commit_laws.proofs.links.TransitCounts.{none_in_transit, takes_less}
use Rattle.commit_laws.proofs.drive.Counts.{first_alone, first_dropped}

module _ (start : Start) (all : ℕ → List HostStep) (e : HostStep) (es : List HostStep)
    (follows : Follows start all e es) (xs left : List Addressed) (transit : AreInTransit start es xs)
    (takes : Takes start e xs left)
    (same : current start (logs_of start (e ∷ es)) ≡ current start (logs_of start es)) (tx : TxId) (u : Transaction)
    (hale : IsHale start (logs_of start es) tx u) (led : is_led_by_full start (logs_of start (e ∷ es)) tx ≡ true)
    (me : Member) (there : IsIn me (made start)) (s : ReplicaState)
    (between : IsBetween start all e es follows.moment me there s)
    (which : (s ≡ rows_at start (logs_of start es) me)
    ⊎ (s ≡ installed (rows_at start (logs_of start es) me) (current start (logs_of start (e ∷ es)))))
    (taken : IsTakenAt start all e es follows.moment me there s) (q : Request) (own : q.tx ≡ tx) (n : ℕ)
    (is : e.step.taken.body ≡ Host (Continue work.Granted n)) (fresh : is_stale s e.step.taken ≡ false)
    (granted : first (is_granted s.lqh.locks) s.lqh.waiting ≡ Some q)
  where
    abbrev old : ℕ → List HostStep
    old = logs_of start es

    abbrev new : ℕ → List HostStep
    new = logs_of start (e ∷ es)

    abbrev h : ℕ
    h = ldm_of start me

    abbrev x : Signal
    x = e.step.taken

    abbrev before : IsMoment start all es
    before = moment_less start all e es follows.moment

    abbrev parts : PartsStand start old xs
    parts = follows.stood.parts xs transit

    abbrev rows_old : ReplicaState
    rows_old = rows_at start old me

    abbrev now : ℕ
    now = number_now start old

    abbrev is_own : Request → Bool
    is_own one = same_tx one.tx tx

    number_is : (current start new).number ≡ (current start old).number
    number_is = ap (λ v. v.number) same

    own_is : same_tx q.tx tx ≡ true
    own_is = ap (λ v. same_tx v tx) own ∙ same_tx-self tx

    -- the rows are as they were, in the current view
    was : (s ≡ rows_old) × (view_after start h (e ∷ old h) ≡ view_after start h (old h))
    was = by between
      where
        by : IsBetween start all e es follows.moment me there s
            → (s ≡ rows_old) × (view_after start h (e ∷ old h) ≡ view_after start h (old h))
        by (as_was is stays) = (is, stays)
        by (entered view is) =
            let none : None ≡ Some q =
            subst (λ (z : ReplicaState). first (is_granted z.lqh.locks) z.lqh.waiting ≡ Some q) is granted in
            absurd cc

    granted_old : first (is_granted rows_old.lqh.locks) rows_old.lqh.waiting ≡ Some q
    granted_old = subst (λ (z : ReplicaState). first (is_granted z.lqh.locks) z.lqh.waiting ≡ Some q) was.0 granted

    stood : view_after start h (old h) ≡ current start old
    stood =
        sym was.1 ∙ (ap (λ k. view_after start k (e ∷ old k)) (sym taken.at) ∙ (taken.now.stands ∙ same))

    stood_number : (view_after start h (old h)).number ≡ (current start old).number
    stood_number = ap (λ (v : View). v.number) stood

    way : IsRequestRouted (layout_in start (current start old)) (rows_of rows_old.lqh.node) q
    way =
        (each-first_item
        (λ (one : Request). IsRequestRouted (layout_in start (current start old)) (rows_of rows_old.lqh.node) one
        × WasAskedIn start old (current start old) one.tx)
        (is_granted rows_old.lqh.locks) rows_old.lqh.waiting q
        (subst
        (λ v. WaitsRouted (layout_in start v) (WasAskedIn start old v) (WasDrivenIn start old v) (IsGivenUp start old)
        rows_old) stood ((signals_are_routed start all es before).rows me there)) granted_old).0

    -- it waits at its place of its chain
    place : slice_get (chain_of (layout_in start (current start old)) (work_key q.work)) q.at ≡ Some me
    place = subst (λ ms. slice_get ms q.at ≡ Some me) way.chain (one.is ∙ ap (λ m. Some m) same_member)
      where
        one : At q.chain q.at
        one = within_at q.chain q.at way.inside

        nodes : one.one.node ≡ me.node
        nodes =
            sym (ap node_of one.is)
            ∙ (sym (ap (λ (p : Place). p.node) way.place) ∙ rows_know_node start follows.moment.cluster.nobody me there
            (old h))

        same_member : one.one ≡ me
        same_member =
            made_same start follows.moment.cluster.nobody one.one me
            (replica_made start all es before (work_key q.work) one.one
            (chain_replica start all es before (work_key q.work) one.one
            (subst (IsIn one.one) way.chain (in_at q.chain q.at one.one one.is)))) there nodes

    tells : Tells start old (work_key q.work) tx u (performs q.work q.at)
    tells =
        each-first_item (λ (one : Request). same_tx one.tx tx ≡ true
        → same_key (work_key one.work) (work_key q.work) ≡ true
        → Tells start old (work_key q.work) tx u (performs one.work one.at)) (is_granted rows_old.lqh.locks)
        rows_old.lqh.waiting q
        (parts.waits tx u hale (work_key q.work) me there stood_number) granted_old own_is
        (same_key-self (work_key q.work))

    -- nothing else of it is under way
    waits_are : waiting_at start old tx now me ≡ count_waiting tx rows_old
    waits_are =
        ap (λ b. if b then count_waiting tx rows_old else 0)
        (eq-eqb (view_after start h (old h)).number now stood_number)

    alone : WaitsAlone start old tx now me
    alone =
        let some = first_dropped is_own (is_granted rows_old.lqh.locks) q own_is rows_old.lqh.waiting granted_old in
        waiting_alone start all es before tx (hale_made start all es before tx u hale) me there
        (omega (arith, some, waits_are))

    counted : count_by is_own s.lqh.waiting ≡ 1
    counted = ap (λ (z : ReplicaState). count_waiting tx z) was.0 ∙ (sym waits_are ∙ alone.here)

    left_none : (key : List ℕ)
        → Each (λ (y : Addressed). y.signal.view.number ≡ (current start new).number
        → Told start new key tx u (part_of tx key y.signal.body)) left
    left_none key =
        each_map (λ (y : Addressed). is_token_in tx now y.signal ≡ false) _ left
        (λ y off here.
        subst (Told start new key tx u)
        (sym (no_part tx key y.signal.body
        (not_and (is_token tx y.signal.body) (y.signal.view.number == now) off
        (eq-eqb y.signal.view.number now (here ∙ number_is))))) tt)
        (takes_less start (λ (y : Addressed). is_token_in tx now y.signal ≡ false) e xs left takes
        (none_in_transit start (is_token_in tx now) (λ y closing. closing_off tx now y closing) all es before xs transit
        alone.goes))

    -- none of it waits at the member any more
    module _ (key : List ℕ) where
      abbrev r : Replica
      r = at_key key s.lqh

      abbrev refused : Bool
      refused = is_refused (storage_of s.lqh) q

      abbrev by_first : Option Request → Replica
      by_first o = served_by r refused o

      abbrev NoneWaits : Replica → Type 0
      NoneWaits one = Each (λ (z : Request). same_tx z.tx tx ≡ true → ⊥) one.waiting

      now_is : replica_at start new me key ≡ key_after (if_on (work_key q.work) key (serves refused)) r
      now_is =
          ap (λ (z : ReplicaState). at_key key z.lqh) taken.rows_are
          ∙ (signals_are_events s x key (between_keeps start all e es follows.moment me there key tx led s which).well
          ∙ ap (λ v. key_after v r)
          (ap (λ b. event_by key s x b) is
          ∙ (ap (λ b. event_if (event_at key s.lqh x.body) b) fresh
          ∙ (ap (event_at key s.lqh) is ∙ ap (serves_if key s.lqh) granted))))

      served_none : same_key (work_key q.work) key ≡ true → NoneWaits (key_after (serves refused) r)
      served_none here =
          subst (λ o. NoneWaits (by_first o)) (sym let_in)
          (each_map (λ (z : Request). same_tx z.tx tx ≡ false) (λ (z : Request). same_tx z.tx tx ≡ true → ⊥)
          (drop_first (is_let_in r.lock) r.waiting) (λ z off mine. true≢false (sym mine ∙ off))
          (none_passes is_own (drop_first (is_let_in r.lock) r.waiting) (omega (arith, dropped, fewer, counted))))
        where
          let_in : first (is_let_in r.lock) r.waiting ≡ Some q
          let_in = first_here s.lqh key s.lqh.waiting q granted (index.same (work_key q.work) key here)

          dropped : count_by is_own r.waiting ≡ 1 + count_by is_own (drop_first (is_let_in r.lock) r.waiting)
          dropped = first_dropped is_own (is_let_in r.lock) q own_is r.waiting let_in

          fewer : count_by is_own r.waiting ≤ count_by is_own s.lqh.waiting
          fewer = filter_count is_own (asks_for key) s.lqh.waiting

      other_none : same_key (work_key q.work) key ≡ false → NoneWaits r
      other_none off =
          each_passing (λ (z : Request). same_tx z.tx tx ≡ true → ⊥) (asks_for key) s.lqh.waiting
          (each_map (λ (z : Request). same_tx z.tx tx ≡ true → z ≡ q)
          (λ (z : Request). asks_for key z ≡ true → same_tx z.tx tx ≡ true → ⊥) s.lqh.waiting
          (λ z only here mine. true≢false (sym (sym (ap (asks_for key) (only mine)) ∙ here) ∙ off))
          (first_alone is_own (is_granted s.lqh.locks) q own_is s.lqh.waiting granted counted))

      none_waits : Each (λ (z : Request). asks_for key z ≡ true → same_tx z.tx tx ≡ true → ⊥)
          (rows_at start new me).lqh.waiting
      none_waits =
          each_if _ (asks_for key) (rows_at start new me).lqh.waiting
          (subst NoneWaits (sym now_is) (by (same_key (work_key q.work) key) refl))
        where
          by : (b : Bool) → same_key (work_key q.work) key ≡ b
              → NoneWaits (key_after (if b then serves refused else rests) r)
          by true here = served_none here
          by false off = other_none off

      served_waits : (m : Member) → IsIn m (made start)
          → (view_after start (ldm_of start m) (new (ldm_of start m))).number ≡ (current start new).number
          → Each (λ (z : Request). same_tx z.tx tx ≡ true → same_key (work_key z.work) key ≡ true
          → Tells start new key tx u (performs z.work z.at)) (rows_at start new m).lqh.waiting
      served_waits m among stands =
          event_cases (machine start) e es (ldm_of start m) (λ log. Waits m)
          (λ here. subst Waits (ldm_same start follows.moment.cluster.nobody me m there among (sym taken.at ∙ here))
          ours) other
        where
          Waits : Member → Type 0
          Waits k =
              Each (λ (z : Request). same_tx z.tx tx ≡ true → same_key (work_key z.work) key ≡ true
              → Tells start new key tx u (performs z.work z.at)) (rows_at start new k).lqh.waiting

          ours : Waits me
          ours =
              each_map _ _ (rows_at start new me).lqh.waiting (λ z none mine here. absurd (none here mine)) none_waits

          other : e.host ≢ ldm_of start m → Waits m
          other off =
              let log_is = log_of-other (machine start) e es (ldm_of start m) off in
              subst
              (λ (z : ReplicaState). Each (λ (one : Request). same_tx one.tx tx ≡ true
              → same_key (work_key one.work) key ≡ true
              → Tells start new key tx u (performs one.work one.at)) z.lqh.waiting)
              (ap (rows_after start m) (sym log_is))
              (each_map (λ (z : Request). same_tx z.tx tx ≡ false) _ (rows_at start old m).lqh.waiting
              (λ z off mine here. absurd (true≢false (sym mine ∙ off)))
              (none_passes is_own (rows_at start old m).lqh.waiting
              (sym (ap (λ b. if b then count_waiting tx (rows_at start old m) else 0)
              (eq-eqb _ now
              (ap (λ log. (view_after start (ldm_of start m) log).number) (sym log_is) ∙ (stands ∙ number_is))))
              ∙ alone.elsewhere m among (λ at. off (taken.at ∙ ap (ldm_of start) (sym at))))))

    pub served_parts : PartsOf start all e es follows xs left transit takes same tx u
    served_parts = record {
      signals = λ key.
          joined_each _ (sent_now start all e es follows xs left transit takes same tx) left
          (each_map (λ (y : Addressed). Told start new key tx u (part_of tx key y.signal.body)) _
          (sent_now start all e es follows xs left transit takes same tx) (λ y told here. told)
          (served_told start all e es follows same tx u hale led me there s between which taken q own n is fresh granted
          way.chain way.work place tells key))
          (left_none key);
      waits = λ key m among stands. served_waits key m among stands;
      rests = λ key off. rests_stay start all e es follows xs left transit takes tx u hale key same led off;
    }
