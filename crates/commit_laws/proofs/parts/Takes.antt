-- Where rows perform a part of a transaction's operation on a key at an event, what they send for it tells the truth.
use Rattle.std.proofs.Common.{◌≡◌, ◌⊎◌, ◌∙◌, ℕ, Bool, true, List, [], ◌∷◌, refl, sym, ap, subst, inl, inr}
use Rattle.std.specs.List.{slice_get}
use Rattle.std.specs.Prelude.{Some}
use Rattle.run_theory.specs.Links.{sent_by}
use Rattle.run_theory.specs.Lists.{Each, IsIn}
use Rattle.run_theory.proofs.EventCases.{event_cases}
use Rattle.frag_map.specs.Layout.{chain_of}
use Rattle.row_locks.specs.declared.mode.Mode.TheVariants.{Exclusive}
use Rattle.row_locks.specs.Holders.{holds_enough}
use Rattle.sig_core.specs.declared.member.Member.{Member}
use Rattle.sig_core.specs.declared.member.TxId.{TxId}
use Rattle.sig_core.specs.declared.signal.Signal.{Signal}
use Rattle.sig_core.specs.declared.signal.chain.RowWork.{RowWork}
use Rattle.tc_block.specs.declared.transaction.Transaction.{Transaction}
use Rattle.lqh_block.specs.Work.{work_mode}
use Rattle.lqh_views.specs.Replica.{installed}
use Rattle.lqh_views.specs.State.{ReplicaState}
use Rattle.key_laws.specs.Replica.{Event, Replica, at_key, key_after, worked}
use Rattle.run_laws.proofs.tokens.Signals.{Token, event_tokens, work_token}
use Rattle.run_laws.specs.Routes.{IsWorkAt}
use Rattle.world_core.specs.Start.{Start, made}
use Rattle.world_core.specs.Steps.{Addressed, HostStep}
use Rattle.world_views.specs.Machine.{machine}
use Rattle.view_laws.specs.Order.{sound_machine}
use Rattle.moment_laws.specs.Moments.{IsMoment, current, logs_of}
use Rattle.moment_laws.specs.Places.{ldm_of}
use Rattle.moment_laws.proofs.MomentViews.{moment_less}
use Rattle.request_laws.specs.Blocks.{rows_after}
use Rattle.request_laws.specs.Replicas.{event_under}
use Rattle.request_laws.specs.Routed.{layout_in}
use Rattle.request_laws.proofs.replicas.KeyEvents.{signals_are_events}
use Rattle.request_laws.proofs.tokens.HostsApart.{ldm_same}
use Rattle.commit_laws.specs.Fates.{is_led_by_full}
use Rattle.commit_laws.specs.Parts.{IsHale, Tells, Told, part_of, performs}
use Rattle.commit_laws.specs.Together.{Follows}
use Rattle.commit_laws.specs.Traces.{IsReplicaOf, replica_at, rows_at}
use Rattle.commit_laws.proofs.commits.Places.{in_at}
use Rattle.commit_laws.proofs.records.KeyStays.{worked_row}
use Rattle.commit_laws.proofs.records.MemberKeeps.{KeepsTo, between_keeps}
use Rattle.commit_laws.proofs.parts.Does.{performs_tell}
use Rattle.commit_laws.proofs.parts.Sent.{part_by, sent_parts}
use Rattle.commit_laws.proofs.records.Replicas.{chain_replica, replica_made}
use Rattle.commit_laws.proofs.hosts.RowsTurn.{IsBetween, IsTakenAt}

module _ (start : Start) (all : ℕ → List HostStep) (e : HostStep) (es : List HostStep)
    (follows : Follows start all e es)
    (same : current start (logs_of start (e ∷ es)) ≡ current start (logs_of start es)) (tx : TxId) (t : Transaction)
    (hale : IsHale start (logs_of start es) tx t) (led : is_led_by_full start (logs_of start (e ∷ es)) tx ≡ true)
    (me : Member) (there : IsIn me (made start)) (s : ReplicaState)
    (between : IsBetween start all e es follows.moment me there s)
    (which : (s ≡ rows_at start (logs_of start es) me)
    ⊎ (s ≡ installed (rows_at start (logs_of start es) me) (current start (logs_of start (e ∷ es)))))
    (taken : IsTakenAt start all e es follows.moment me there s) (key : List ℕ)
  where
    abbrev old : ℕ → List HostStep
    old = logs_of start es

    abbrev new : ℕ → List HostStep
    new = logs_of start (e ∷ es)

    abbrev before : IsMoment start all es
    before = moment_less start all e es follows.moment

    abbrev x : Signal
    x = e.step.taken

    abbrev r : Replica
    r = at_key key s.lqh

    abbrev chain_old : List Member
    chain_old = chain_of (layout_in start (current start old)) key

    -- other members have what they had
    pub others_same : (m : Member) → IsIn m (made start)
        → (m ≡ me) ⊎ (replica_at start (logs_of start (e ∷ es)) m key ≡ replica_at start (logs_of start es) m key)
    others_same m among =
        event_cases (machine start) e es (ldm_of start m)
        (λ log. (m ≡ me) ⊎ (at_key key (rows_after start m log).lqh ≡ replica_at start old m key))
        (λ here. inl (ldm_same start follows.moment.cluster.nobody m me among there (sym here ∙ taken.at)))
        (λ off. inr refl)

    chain_made : (place : ℕ) (m : Member) → slice_get chain_old place ≡ Some m
        → IsReplicaOf start old key m × IsIn m (made start)
    chain_made place m is =
        let replica = chain_replica start all es before key m (in_at chain_old place m is) in
        (replica, replica_made start all es before key m replica)

    kept_between : KeepsTo start all e es follows.moment me there key tx s
    kept_between = between_keeps start all e es follows.moment me there key tx led s which

    cell_is : r.cell ≡ (replica_at start old me key).cell
    cell_is = by which
      where
        by : (s ≡ rows_at start old me) ⊎ (s ≡ installed (rows_at start old me) (current start new))
            → r.cell ≡ (replica_at start old me key).cell
        by (inl is) = ap (λ (q : ReplicaState). (at_key key q.lqh).cell) is
        by (inr is) = ap (λ (q : ReplicaState). (at_key key q.lqh).cell) is

    -- the event performs this part
    module _ (w : RowWork) (at : ℕ) (placed : IsWorkAt at w)
        (place : slice_get (chain_of (layout_in start (current start (logs_of start es))) key) at ≡ Some me)
        (refused : Bool) (event : Event) (event_is : event_under key s e.step.taken ≡ event)
        (cell_now : (key_after event (at_key key s.lqh)).cell ≡ worked (at_key key s.lqh).cell tx refused w)
        (held : holds_enough tx (work_mode w) (key_after event (at_key key s.lqh)).lock.holders ≡ true)
        (kept : holds_enough tx Exclusive (at_key key s.lqh).lock.holders ≡ true
        → holds_enough tx Exclusive (key_after event (at_key key s.lqh)).lock.holders ≡ true)
        (tokens : event_tokens tx event (at_key key s.lqh)
        ≡ work_token (at_key key s.lqh).cell tx (chain_of (layout_in start (current start (logs_of start es))) key) at
        refused w ∷ [])
      where
        now_is : replica_at start new me key ≡ key_after event r
        now_is =
            ap (λ (q : ReplicaState). at_key key q.lqh) taken.rows_are
            ∙ (signals_are_events s x key kept_between.well ∙ ap (λ (v : Event). key_after v r) event_is)

        row_same : (replica_at start new me key).cell.row ≡ (replica_at start old me key).cell.row
        row_same =
            ap (λ (q : Replica). q.cell.row) now_is
            ∙ (ap (λ c. c.row) cell_now ∙ (worked_row r.cell tx refused w ∙ ap (λ c. c.row) cell_is))

        pub performed_told : Tells start (logs_of start es) key tx t (performs w at)
            → Each (λ (y : Addressed). Told start (logs_of start (e ∷ es)) key tx t (part_of tx key y.signal.body))
            (sent_by (sound_machine start) e.host (logs_of start es e.host) e)
        performed_told tells =
            sent_parts start all e es follows tx t t hale me there s between taken key
            (λ (one : Token). one ≡ work_token r.cell tx chain_old at refused w)
            (subst (Each (λ (one : Token). one ≡ work_token r.cell tx chain_old at refused w))
            (sym (ap (λ (v : Event). event_tokens tx v r) event_is ∙ tokens)) (refl, tt))
            (λ one is. subst (λ (k : Token). Tells start new key tx t (part_by k)) (sym is)
            (performs_tell start old new same key tx me others_same chain_made row_same t r.cell cell_is refused
            (λ was. ap (λ (q : Replica). holds_enough tx Exclusive q.lock.holders) now_is
            ∙ kept (kept_between.keeps.exclusive was))
            w at placed place (ap (λ (q : Replica). q.cell) now_is ∙ cell_now)
            (ap (λ (q : Replica). holds_enough tx (work_mode w) q.lock.holders) now_is ∙ held) tells))
