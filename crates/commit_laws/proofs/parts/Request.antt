-- The parts of a transaction's operations behind an event at which rows take a request of it, in the current view.
use Rattle.std.proofs.Common.{◌≡◌, ◌≢◌, ◌⊎◌, ◌&&◌, ◌==◌, ◌||◌, ◌∙◌, ℕ, Bool, true, false, cond, filter, List, [], ◌∷◌}
use Rattle.std.proofs.Common.{eq-eqb, refl, sym, ap, subst, inl, inr}
use Rattle.std.proofs.lemmas.Bool.{true≢false}
use Rattle.std.specs.List.{slice_get}
use Rattle.std.specs.Prelude.{if◌then◌else◌, Some}
use Rattle.run_theory.proofs.Pasts.{each_append, each_filter, each_map}
use Rattle.run_theory.proofs.Runs.{log_of-other}
use Rattle.run_theory.specs.Lists.{Each, IsIn}
use Rattle.run_theory.proofs.EventCases.{event_cases}
use Rattle.frag_map.specs.Layout.{chain_of}
use Rattle.row_locks.specs.declared.mode.Lock.{Lock}
use Rattle.row_locks.specs.declared.mode.Lock.TheVariants.{Granted, Queued}
use Rattle.row_locks.specs.Rows.{asked}
use Rattle.sig_core.specs.declared.member.Member.{Member}
use Rattle.sig_core.specs.declared.member.TxId.{TxId}
use Rattle.sig_core.specs.declared.signal.Body.TheVariants.{Chain}
use Rattle.sig_core.specs.declared.signal.Signal.{Signal}
use Rattle.sig_core.specs.declared.signal.chain.ChainSignal.TheVariants.{LqhKeyReq}
use Rattle.sig_core.specs.declared.signal.chain.RowWork.{RowWork}
use Rattle.sig_core.specs.Same.{same_key, same_tx}
use Rattle.sig_core.specs.Work.{work_key}
use Rattle.sig_core.proofs.Keys.{same_key-self, same_tx-self}
use Rattle.tc_block.specs.declared.transaction.Transaction.{Transaction}
use Rattle.row_records.proofs.KeyLemmas as index
use Rattle.lqh_block.specs.declared.request.Request.{Request}
use Rattle.lqh_block.specs.State.{storage_of}
use Rattle.lqh_block.specs.Work.{work_mode}
use Rattle.lqh_views.specs.Replica.{installed}
use Rattle.lqh_views.specs.State.{ReplicaState}
use Rattle.key_laws.specs.Replica.{Replica, asked_by, asks, asks_for, at_key, event_at, if_on, is_refused, key_after}
use Rattle.key_laws.specs.Replica.{rests}
use Rattle.key_laws.proofs.LockHolding.{requests_hold_on}
use Rattle.run_laws.specs.Routes.{IsWorkAt}
use Rattle.run_laws.specs.Transit.{joined}
use Rattle.run_laws.proofs.transit.Weighing.{joined_each}
use Rattle.run_laws.specs.Tokens.{is_token}
use Rattle.world_core.specs.Start.{Start, made}
use Rattle.world_core.specs.Steps.{Addressed, HostStep}
use Rattle.world_views.specs.Machine.{machine}
use Rattle.view_laws.specs.Order.{sound_machine}
use Rattle.view_laws.specs.Runs.{view_after}
use Rattle.moment_laws.specs.Moments.{IsMoment, current, logs_of}
use Rattle.moment_laws.specs.Places.{ldm_of}
use Rattle.moment_laws.proofs.MomentViews.{moment_less}
use Rattle.outcome_laws.proofs.coordinators.Lists.{none_passes}
use Rattle.request_laws.specs.Blocks.{rows_after}
use Rattle.request_laws.specs.Replicas.{event_by}
use Rattle.request_laws.specs.Routed.{layout_in}
use Rattle.request_laws.specs.Tokens.{IsAlone, count_waiting, is_token_in, number_now}
use Rattle.request_laws.proofs.replicas.KeyEvents.{signals_are_events}
use Rattle.request_laws.proofs.routes.Headers.{chain_fenced}
use Rattle.request_laws.proofs.tokens.Alone.{taken_alone}
use Rattle.request_laws.proofs.tokens.HostsApart.{ldm_same}
use Rattle.commit_laws.specs.Fates.{is_led_by_full}
use Rattle.commit_laws.specs.Parts.{IsHale, IsOff, Tells, Told, part_if, part_of, performs}
use Rattle.commit_laws.specs.Settled.{IsSettledWith}
use Rattle.commit_laws.specs.Together.{Follows}
use Rattle.commit_laws.specs.Traces.{replica_at, rows_at}
use Rattle.commit_laws.specs.Transit.{AreInTransit, Takes, is_closing}
use Rattle.commit_laws.proofs.fates.Committed.{alone_waits}
use Rattle.commit_laws.proofs.commits.Places.{request_place}
use Rattle.commit_laws.proofs.fates.Going.{hale_made}
use Rattle.commit_laws.proofs.records.MemberKeeps.{KeepsFor, KeepsTo, between_keeps, keeps_both, keeps_self}
use Rattle.commit_laws.proofs.parts.Asks.{request_told}
use Rattle.commit_laws.proofs.parts.Own.{PartsOf, sent_now}
use Rattle.commit_laws.proofs.parts.Rests.{link_gave, rests_stay}
use Rattle.commit_laws.proofs.parts.Takes.{others_same}
use Rattle.commit_laws.proofs.parts.Quiet.{closing_off, no_part, not_and}
use Rattle.commit_laws.proofs.hosts.RowsTurn.{IsBetween, IsTakenAt}
use Rattle.commit_laws.proofs.parts.TellsKept.{tells_still}
use Rattle.commit_laws.proofs.links.TransitCounts.{each_taken, none_left}

-- what holds of each that passes a test holds of each if it passes
pub each_if : {A : Type 0} (P : A → Type 0) (p : A → Bool) (xs : List A) → Each P (filter p xs)
    → Each (λ x. p x ≡ true → P x) xs
each_if P p [] all = tt
each_if {A} P p (x ∷ xs) all = by (p x) refl all (each_if P p xs)
  where
    by : (b : Bool) → p x ≡ b → Each P (cond b (x ∷ filter p xs) (filter p xs))
        → (Each P (filter p xs) → Each (λ x. p x ≡ true → P x) xs) → Each (λ x. p x ≡ true → P x) (x ∷ xs)
    by true is all more = ((λ passes. all.0), more all.1)
    by false off all more = ((λ passes. absurd (true≢false (sym passes ∙ off))), more all)

module _ (start : Start) (all : ℕ → List HostStep) (e : HostStep) (es : List HostStep)
    (follows : Follows start all e es) (xs left : List Addressed) (transit : AreInTransit start es xs)
    (takes : Takes start e xs left)
    (same : current start (logs_of start (e ∷ es)) ≡ current start (logs_of start es)) (tx : TxId) (t : Transaction)
    (hale : IsHale start (logs_of start es) tx t) (led : is_led_by_full start (logs_of start (e ∷ es)) tx ≡ true)
    (me : Member) (there : IsIn me (made start)) (s : ReplicaState)
    (between : IsBetween start all e es follows.moment me there s)
    (which : (s ≡ rows_at start (logs_of start es) me)
    ⊎ (s ≡ installed (rows_at start (logs_of start es) me) (current start (logs_of start (e ∷ es)))))
    (taken : IsTakenAt start all e es follows.moment me there s) (w : RowWork) (chain : List Member) (at : ℕ)
    (is : e.step.taken.body ≡ Chain (LqhKeyReq tx w chain at))
    (along : chain ≡ chain_of (layout_in start (current start (logs_of start es))) (work_key w))
    (placed : IsWorkAt at w)
    (place : slice_get (chain_of (layout_in start (current start (logs_of start es))) (work_key w)) at ≡ Some me)
  where
    abbrev old : ℕ → List HostStep
    old = logs_of start es

    abbrev new : ℕ → List HostStep
    new = logs_of start (e ∷ es)

    abbrev x : Signal
    x = e.step.taken

    abbrev before : IsMoment start all es
    before = moment_less start all e es follows.moment

    abbrev q : Request
    q = record { tx = tx; work = w; chain = chain; at = at }

    header : x.view.number ≡ (current start new).number
    header = taken.now.fresh (chain_fenced x (LqhKeyReq tx w chain at) is)

    gave : ((sound_machine start).asked e || is_closing x.body) ≡ false
    gave = link_gave start all e es follows xs left transit takes taken.now.sound (LqhKeyReq tx w chain at) is

    asked_off : (sound_machine start).asked e ≡ false
    asked_off = first_off ((sound_machine start).asked e) (is_closing x.body) gave
      where
        first_off : (a b : Bool) → (a || b) ≡ false → a ≡ false
        first_off true b off = absurd (true≢false off)
        first_off false b off = refl

    token : is_token_in tx (number_now start new) x ≡ true
    token =
        (λ i. (ap (is_token tx) is ∙ same_tx-self tx) i && eq-eqb x.view.number (number_now start new) header i)

    alone : IsAlone start old tx (number_now start new)
    alone = taken_alone start all e es follows.moment tx (hale_made start all es before tx t hale) asked_off token

    -- the request tells the truth
    tells : Tells start old (work_key w) tx t (performs w at)
    tells =
        subst (Told start old (work_key w) tx t)
        (ap (part_of tx (work_key w)) is
        ∙ (λ i. part_if (performs w at) (same_tx-self tx i && same_key-self (work_key w) i)))
        (each_taken start
        (λ (y : Addressed). y.signal.view.number ≡ (current start old).number
        → Told start old (work_key w) tx t (part_of tx (work_key w) y.signal.body)) e xs left takes gave
        ((follows.stood.parts xs transit).signals tx t hale (work_key w)) (header ∙ ap (λ v. v.number) same))

    -- no other part is in transit
    left_none : (key : List ℕ)
        → Each (λ (y : Addressed). y.signal.view.number ≡ (current start new).number
        → Told start new key tx t (part_of tx key y.signal.body)) left
    left_none key =
        each_map (λ (y : Addressed). is_token_in tx (number_now start new) y.signal ≡ false) _ left
        (λ y off here.
        subst (Told start new key tx t)
        (sym (no_part tx key y.signal.body
        (not_and (is_token tx y.signal.body) (y.signal.view.number == number_now start new) off
        (eq-eqb y.signal.view.number (number_now start new) here)))) tt)
        (none_left start (is_token_in tx (number_now start new))
        (λ y closing. closing_off tx (number_now start new) y closing)
        all e es follows.moment xs left transit takes alone.goes asked_off token)

    pub request_signals : (key : List ℕ)
        → Each (λ (y : Addressed). y.signal.view.number ≡ (current start (logs_of start (e ∷ es))).number
        → Told start (logs_of start (e ∷ es)) key tx t (part_of tx key y.signal.body))
        (joined (sent_now start all e es follows xs left transit takes same tx) left)
    request_signals key =
        joined_each _ (sent_now start all e es follows xs left transit takes same tx) left
        (each_map (λ (y : Addressed). Told start new key tx t (part_of tx key y.signal.body)) _
        (sent_now start all e es follows xs left transit takes same tx) (λ y told here. told)
        (request_told start all e es follows same tx t hale led me there s between which taken w chain at is along
        placed
        place tells key))
        (left_none key)

    -- and what is settled otherwise stays so
    pub request_rests : (key : List ℕ) → IsOff start (logs_of start (e ∷ es)) key tx t t.asked
        → IsSettledWith start (logs_of start (e ∷ es)) key tx t.ops
    request_rests key off = rests_stay start all e es follows xs left transit takes tx t hale key same led off

    -- Of the requests that wait at the member for a key this is the only one, if it was queued.
    module _ (key : List ℕ) where
      abbrev r : Replica
      r = at_key key s.lqh

      abbrev refused : Bool
      refused = is_refused (storage_of s.lqh) q

      none_waits : Each (λ (one : Request). same_tx one.tx tx ≡ true → Tells start new key tx t
          (performs one.work one.at))
          r.waiting
      none_waits =
          each_map (λ (one : Request). same_tx one.tx tx ≡ false) _ r.waiting
          (λ one off mine. absurd (true≢false (sym mine ∙ off)))
          (each_filter (λ (one : Request). same_tx one.tx tx ≡ false) (asks_for key) s.lqh.waiting
          (alone_waits start all e es follows.moment me there tx (hale_made start all es before tx t hale) s between
          taken
          (ap (is_token tx) is ∙ same_tx-self tx)))

      kept : KeepsTo start all e es follows.moment me there key tx s
      kept = between_keeps start all e es follows.moment me there key tx led s which

      now_is : replica_at start new me key ≡ key_after (if_on (work_key w) key (asks q refused)) r
      now_is =
          ap (λ (z : ReplicaState). at_key key z.lqh) taken.rows_are
          ∙ (signals_are_events s x key kept.well
          ∙ ap (λ v. key_after v r) (ap (λ b. event_by key s x b) is ∙ ap (event_at key s.lqh) is))

      abbrev by_lock : Lock → Replica
      by_lock a = asked_by r (asked r.lock tx (work_mode w)).lock q refused a

      abbrev WaitsIn : Replica → Type 0
      WaitsIn one =
          Each (λ (z : Request). same_tx z.tx tx ≡ true → Tells start new key tx t (performs z.work z.at)) one.waiting

      -- where it is queued all members keep what they have of it
      module _ (ahead : TxId) (here : same_key (work_key w) key ≡ true)
          (queued : (asked r.lock tx (work_mode w)).answer ≡ Queued ahead) where
        after_is : replica_at start new me key ≡ by_lock (Queued ahead)
        after_is =
            now_is ∙ (ap (λ b. key_after (if b then asks q refused else rests) r) here ∙ ap by_lock queued)

        me_keeps : KeepsFor tx (replica_at start old me key) (replica_at start new me key)
        me_keeps =
            subst (KeepsFor tx (replica_at start old me key)) (sym after_is)
            (keeps_both tx (replica_at start old me key) r (by_lock (Queued ahead)) kept.held kept.keeps (record {
              found_is = refl;
              held = (requests_hold_on r.lock tx (work_mode w) (kept.well.orderly.each key)).held tx refl;
              exclusive = (requests_hold_on r.lock tx (work_mode w) (kept.well.orderly.each key)).exclusive tx refl;
              row = λ held on. refl;
            }))

        all_keep : (m : Member) → IsIn m (made start)
            → KeepsFor tx (replica_at start old m key) (replica_at start new m key)
        all_keep m among =
            by (others_same start all e es follows same tx t hale led me there s between which taken key m among)
          where
            by : (m ≡ me) ⊎ (replica_at start new m key ≡ replica_at start old m key)
                → KeepsFor tx (replica_at start old m key) (replica_at start new m key)
            by (inl own) =
                subst (λ k. KeepsFor tx (replica_at start old k key) (replica_at start new k key)) (sym own) me_keeps
            by (inr rest) =
                subst (KeepsFor tx (replica_at start old m key)) (sym rest) (keeps_self tx (replica_at start old m key))

        own_waits : Tells start new key tx t (performs w at)
        own_waits =
            tells_still start all e es follows.moment follows.stood.commits same key tx all_keep t t refl refl
            (performs w at)
            (subst (λ k. Tells start old k tx t (performs w at)) (index.same (work_key w) key here) tells)

      asked_waits : same_key (work_key w) key ≡ true → (a : Lock) → (asked r.lock tx (work_mode w)).answer ≡ a
          → WaitsIn (by_lock a)
      asked_waits here Granted lets = none_waits
      asked_waits here (Queued ahead) queued =
          each_append _ r.waiting (q ∷ []) none_waits ((λ mine. own_waits ahead here queued), tt)

      me_waits : Each (λ (z : Request). asks_for key z ≡ true → same_tx z.tx tx ≡ true
          → Tells start new key tx t (performs z.work z.at)) (rows_at start new me).lqh.waiting
      me_waits =
          each_if _ (asks_for key) (rows_at start new me).lqh.waiting
          (subst WaitsIn (sym now_is) (by (same_key (work_key w) key) refl))
        where
          by : (b : Bool) → same_key (work_key w) key ≡ b → WaitsIn (key_after (if b then asks q refused else rests) r)
          by true here = asked_waits here (asked r.lock tx (work_mode w)).answer refl
          by false off = none_waits

      pub request_waits : (m : Member) → IsIn m (made start)
          → (view_after start (ldm_of start m) (logs_of start (e ∷ es) (ldm_of start m))).number
          ≡ (current start (logs_of start (e ∷ es))).number
          → Each (λ (z : Request). same_tx z.tx tx ≡ true → same_key (work_key z.work) key ≡ true
          → Tells start (logs_of start (e ∷ es)) key tx t (performs z.work z.at))
          (rows_at start (logs_of start (e ∷ es)) m).lqh.waiting
      request_waits m among stands =
          event_cases (machine start) e es (ldm_of start m) (λ log. Waits m)
          (λ here. subst Waits (ldm_same start follows.moment.cluster.nobody me m there among (sym taken.at ∙ here))
          own) other
        where
          Waits : Member → Type 0
          Waits k =
              Each (λ (z : Request). same_tx z.tx tx ≡ true → same_key (work_key z.work) key ≡ true
              → Tells start new key tx t (performs z.work z.at)) (rows_at start new k).lqh.waiting

          own : Waits me
          own = each_map _ _ (rows_at start new me).lqh.waiting (λ z waits mine here. waits here mine) me_waits

          other : e.host ≢ ldm_of start m → Waits m
          other off =
              let log_is = log_of-other (machine start) e es (ldm_of start m) off in
              subst
              (λ (z : ReplicaState). Each (λ (one : Request). same_tx one.tx tx ≡ true
              → same_key (work_key one.work) key ≡ true
              → Tells start new key tx t (performs one.work one.at)) z.lqh.waiting)
              (ap (rows_after start m) (sym log_is))
              (each_map (λ (z : Request). same_tx z.tx tx ≡ false) _ (rows_at start old m).lqh.waiting
              (λ z off mine here. absurd (true≢false (sym mine ∙ off)))
              (none_passes (λ (z : Request). same_tx z.tx tx) (rows_at start old m).lqh.waiting
              (sym (ap (λ b. if b then count_waiting tx (rows_at start old m) else 0)
              (eq-eqb _ (number_now start new)
              (ap (λ log. (view_after start (ldm_of start m) log).number) (sym log_is) ∙ stands)))
              ∙ alone.waits m among)))

    -- so all of it tells the truth
    pub request_parts : PartsOf start all e es follows xs left transit takes same tx t
    request_parts =
        record {
          signals = request_signals;
          waits = λ key m among stands. request_waits key m among stands;
          rests = request_rests;
        }

-- wherever it went
pub taken_request_parts : (start : Start) (all : ℕ → List HostStep) (e : HostStep) (es : List HostStep)
    (follows : Follows start all e es) (xs left : List Addressed) (transit : AreInTransit start es xs)
    (takes : Takes start e xs left)
    (same : current start (logs_of start (e ∷ es)) ≡ current start (logs_of start es)) (tx : TxId) (t : Transaction)
    → IsHale start (logs_of start es) tx t → is_led_by_full start (logs_of start (e ∷ es)) tx ≡ true
    → (me : Member) (there : IsIn me (made start)) (s : ReplicaState)
    → IsBetween start all e es follows.moment me there s
    → (s ≡ rows_at start (logs_of start es) me)
    ⊎ (s ≡ installed (rows_at start (logs_of start es) me) (current start (logs_of start (e ∷ es))))
    → IsTakenAt start all e es follows.moment me there s → (w : RowWork) (chain : List Member) (at : ℕ)
    → e.step.taken.body ≡ Chain (LqhKeyReq tx w chain at)
    → PartsOf start all e es follows xs left transit takes same tx t
taken_request_parts start all e es follows xs left transit takes same tx t hale led me there s between which taken w
    chain
    at is =
    let way =
    request_place start all e es follows.moment me there
    (record { rows = s; between = between; taken = taken; at = taken.at; now = taken.now }) tx w chain at is in
    request_parts start all e es follows xs left transit takes same tx t hale led me there s between which taken w chain
    at
    is way.0 way.1.1 way.1.0
