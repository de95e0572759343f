-- The parts of a transaction's operations behind an event of the rows of a member, in the current view, where the rows
-- do nothing, install a view, or do what isn't of the transaction.
use Rattle.std.proofs.Common.{◌≡◌, ◌⊎◌, ◌∙◌, ℕ, true, false, List, ◌∷◌, refl, sym, ap, subst, inr}
use Rattle.run_theory.proofs.Pasts.{each_filter, each_map}
use Rattle.run_theory.proofs.Runs.{log_of-own}
use Rattle.run_theory.specs.Lists.{Each, IsIn}
use Rattle.sig_core.specs.declared.member.Member.{Member}
use Rattle.sig_core.specs.declared.member.TxId.{TxId}
use Rattle.sig_core.specs.declared.outs.Outgoing.{Outgoing}
use Rattle.sig_core.specs.declared.signal.Signal.{Signal}
use Rattle.sig_core.specs.declared.view.View.{View}
use Rattle.sig_core.specs.Same.{same_key, same_tx}
use Rattle.sig_core.specs.Work.{work_key}
use Rattle.tc_block.specs.declared.transaction.Transaction.{Transaction}
use Rattle.lqh_block.specs.declared.request.Request.{Request}
use Rattle.lqh_views.specs.Replica.{installed}
use Rattle.lqh_views.specs.State.{ReplicaState}
use Rattle.key_laws.specs.Replica.{Replica, asks_for, at_key, key_after}
use Rattle.run_laws.proofs.tokens.Signals.{Token}
use Rattle.run_laws.proofs.tokens.Signals as token
use Rattle.run_laws.proofs.circle.OthersStay.{is_of}
use Rattle.world_core.specs.Start.{Start, made}
use Rattle.world_core.specs.Steps.{Addressed, HostStep}
use Rattle.world_views.specs.Machine.{machine, step_after}
use Rattle.view_laws.specs.Runs.{view_after}
use Rattle.moment_laws.specs.Moments.{IsMoment, current, logs_of}
use Rattle.moment_laws.specs.Places.{ldm_of}
use Rattle.request_laws.specs.Replicas.{event_under}
use Rattle.request_laws.proofs.replicas.KeyEvents.{signals_are_events}
use Rattle.commit_laws.specs.Fates.{is_led_by_full}
use Rattle.commit_laws.specs.Parts.{IsHale, PartsStand, Tells, Told, part_of, performs}
use Rattle.commit_laws.specs.Together.{Follows}
use Rattle.commit_laws.specs.Traces.{replica_at, rows_at}
use Rattle.commit_laws.specs.Transit.{AreInTransit, Takes}
use Rattle.commit_laws.proofs.records.KeyStays.{worker_of}
use Rattle.commit_laws.proofs.records.MemberKeeps.{KeepsFor, KeepsTo, between_keeps, event_keeps, keeps_both}
use Rattle.commit_laws.proofs.records.MemberKeeps.{keeps_self}
use Rattle.commit_laws.proofs.parts.Events.{aside_tokens, aside_waits}
use Rattle.commit_laws.proofs.parts.Own.{bodies_sent, sent_now}
use Rattle.commit_laws.proofs.parts.Request.{each_if}
use Rattle.commit_laws.proofs.parts.Still.{MemberDoes}
use Rattle.commit_laws.proofs.parts.Sent.{part_by, sent_parts}
use Rattle.commit_laws.proofs.hosts.RowsTurn.{IsBetween, IsQuiet, IsTakenAt, as_was, entered}
use Rattle.commit_laws.proofs.hosts.SaverGoes.{AreAlike, IsOfSaver, of_saver}

module _ (start : Start) (all : ℕ → List HostStep) (e : HostStep) (es : List HostStep)
    (follows : Follows start all e es) (xs left : List Addressed) (transit : AreInTransit start es xs)
    (takes : Takes start e xs left)
    (same : current start (logs_of start (e ∷ es)) ≡ current start (logs_of start es)) (tx : TxId) (u : Transaction)
    (hale : IsHale start (logs_of start es) tx u) (led : is_led_by_full start (logs_of start (e ∷ es)) tx ≡ true)
    (me : Member) (there : IsIn me (made start)) (at : e.host ≡ ldm_of start me)
  where
    abbrev old : ℕ → List HostStep
    old = logs_of start es

    abbrev new : ℕ → List HostStep
    new = logs_of start (e ∷ es)

    abbrev h : ℕ
    h = ldm_of start me

    abbrev moment : IsMoment start all (e ∷ es)
    moment = follows.moment

    abbrev parts : PartsStand start old xs
    parts = follows.stood.parts xs transit

    abbrev rows_old : ReplicaState
    rows_old = rows_at start old me

    abbrev WaitsTold : List ℕ → ReplicaState → Type 0
    WaitsTold key s =
        Each (λ (q : Request). same_tx q.tx tx ≡ true → same_key (work_key q.work) key ≡ true
        → Tells start old key tx u (performs q.work q.at)) s.lqh.waiting

    new_log : new h ≡ e ∷ old h
    new_log = log_of-own (machine start) e es h at

    -- where the view of the host is the same, what waits tells the truth
    told_before : (key : List ℕ) → view_after start h (e ∷ old h) ≡ view_after start h (old h)
        → (view_after start h (new h)).number ≡ (current start new).number → WaitsTold key rows_old
    told_before key stays stands =
        parts.waits tx u hale key me there
        (sym (ap (λ (v : View). v.number) stays)
        ∙ (ap (λ log. (view_after start h log).number) (sym new_log) ∙ (stands ∙ ap (λ v. v.number) same)))

    -- where the host sends nothing but what is of its rows' saver
    nothing_told : Each IsOfSaver (step_after start h (old h) e).effects.sends → (key : List ℕ)
        → Each (λ (y : Addressed). Told start new key tx u (part_of tx key y.signal.body))
        (sent_now start all e es follows xs left transit takes same tx)
    nothing_told own key =
        bodies_sent start e.host (old e.host) e (λ b. Told start new key tx u (part_of tx key b))
        (subst
        (λ k. Each (λ (o : Outgoing). Told start new key tx u (part_of tx key o.body))
        (step_after start k (old k) e).effects.sends) (sym at)
        (each_map IsOfSaver (λ (o : Outgoing). Told start new key tx u (part_of tx key o.body))
        (step_after start h (old h) e).effects.sends
        (λ o is.
        of_saver (λ body. Told start new key tx u (part_of tx key body))
        (record { reports = λ epoch. tt; confirms = tt; goes_on = λ at. tt }) o.body is)
        own))

    -- the rows do nothing
    pub resting_does : AreAlike (rows_at start (logs_of start (e ∷ es)) me) (rows_at start (logs_of start es) me)
        → IsQuiet start all e es follows.moment me there
        → view_after start (ldm_of start me) (e ∷ logs_of start es (ldm_of start me))
        ≡ view_after start (ldm_of start me) (logs_of start es (ldm_of start me))
        → MemberDoes start all e es follows xs left transit takes same tx u hale led me there at
    resting_does is quiet stays = record {
      keeps = λ key.
          subst (λ (s : ReplicaState). KeepsFor tx (replica_at start old me key) (at_key key s.lqh)) (sym is)
          (keeps_self tx (replica_at start old me key));
      sent = nothing_told quiet.sends;
      waits = λ key stands. subst (WaitsTold key) (sym is) (told_before key stays stands);
    }

    -- a view is installed in them
    pub entering_does : AreAlike (rows_at start (logs_of start (e ∷ es)) me)
        (installed (rows_at start (logs_of start es) me) (current start (logs_of start (e ∷ es))))
        → IsQuiet start all e es follows.moment me there
        → MemberDoes start all e es follows xs left transit takes same tx u hale led me there at
    entering_does is quiet = record {
      keeps = λ key.
          subst (λ (s : ReplicaState). KeepsFor tx (replica_at start old me key) (at_key key s.lqh)) (sym is)
          (between_keeps start all e es moment me there key tx led (installed rows_old (current start new))
          (inr refl)).keeps;
      sent = nothing_told quiet.sends;
      waits = λ key stands. subst (WaitsTold key) (sym is) tt;
    }

    -- they do what isn't of the transaction
    module _ (s : ReplicaState) (between : IsBetween start all e es follows.moment me there s)
        (which : (s ≡ rows_at start (logs_of start es) me)
        ⊎ (s ≡ installed (rows_at start (logs_of start es) me) (current start (logs_of start (e ∷ es)))))
        (taken : IsTakenAt start all e es follows.moment me there s)
        (aside : (key : List ℕ) → is_of tx (worker_of (event_under key s e.step.taken) (at_key key s.lqh)) ≡ false)
      where
        abbrev x : Signal
        x = e.step.taken

        kept : (key : List ℕ) → KeepsTo start all e es moment me there key tx s
        kept key = between_keeps start all e es moment me there key tx led s which

        now_is : (key : List ℕ) → replica_at start new me key ≡ key_after (event_under key s x) (at_key key s.lqh)
        now_is key =
            ap (λ (z : ReplicaState). at_key key z.lqh) taken.rows_are ∙ signals_are_events s x key (kept key).well

        between_told : (key : List ℕ) → (view_after start h (new h)).number ≡ (current start new).number
            → WaitsTold key s
        between_told key stands = by between
          where
            by : IsBetween start all e es moment me there s → WaitsTold key s
            by (as_was is stays) = subst (WaitsTold key) (sym is) (told_before key stays stands)
            by (entered view is) = subst (WaitsTold key) (sym is) tt

        -- what waits for the key
        key_told : (key : List ℕ) → (view_after start h (new h)).number ≡ (current start new).number
            → Each (λ (q : Request). same_tx q.tx tx ≡ true → same_key (work_key q.work) key ≡ true
            → Tells start old key tx u (performs q.work q.at)) (replica_at start new me key).waiting
        key_told key stands =
            subst
            (λ (r : Replica). Each (λ (q : Request). same_tx q.tx tx ≡ true → same_key (work_key q.work) key ≡ true
            → Tells start old key tx u (performs q.work q.at)) r.waiting)
            (sym (now_is key))
            (aside_waits tx (λ (q : Request). same_key (work_key q.work) key ≡ true
            → Tells start old key tx u (performs q.work q.at))
            (event_under key s x) (at_key key s.lqh) (aside key)
            (each_filter (λ (q : Request). same_tx q.tx tx ≡ true → same_key (work_key q.work) key ≡ true
            → Tells start old key tx u (performs q.work q.at)) (asks_for key) s.lqh.waiting (between_told key stands)))

        pub aside_does : MemberDoes start all e es follows xs left transit takes same tx u hale led me there at
        aside_does = record {
          keeps = λ key.
              subst (KeepsFor tx (replica_at start old me key)) (sym (now_is key))
              (keeps_both tx (replica_at start old me key) (at_key key s.lqh)
              (key_after (event_under key s x) (at_key key s.lqh)) (kept key).held (kept key).keeps
              (event_keeps tx (at_key key s.lqh) (event_under key s x) ((kept key).well.orderly.each key) (aside key)));
          sent = λ key.
              sent_parts start all e es follows tx u u hale me there s between taken key
              (λ (one : Token). one ≡ token.refuses)
              (aside_tokens tx (event_under key s x) (at_key key s.lqh) (aside key))
              (λ one is. subst (λ (k : Token). Tells start new key tx u (part_by k)) (sym is) tt);
          waits = λ key stands.
              each_map (λ (q : Request). asks_for key q ≡ true → same_tx q.tx tx ≡ true
              → same_key (work_key q.work) key ≡ true → Tells start old key tx u (performs q.work q.at)) _
              (rows_at start new me).lqh.waiting (λ q told own here. told here own here)
              (each_if _ (asks_for key) (rows_at start new me).lqh.waiting (key_told key stands));
        }
