-- The parts of a transaction's operations at an event of its coordinator's host in the current view.
use Rattle.std.proofs.Common.{◌≡◌, ◌⊎◌, ◌||◌, ◌∙◌, ℕ, Bool, true, false, List, [], ◌∷◌, refl, sym, ap, subst}
use Rattle.std.proofs.lemmas.Bool.{true≢false}
use Rattle.std.specs.Prelude.{None, Some}
use Rattle.run_theory.proofs.Links.{sent_by_each}
use Rattle.run_theory.proofs.Pasts.{each_filter, each_in, each_map}
use Rattle.run_theory.specs.Links.{sent_by}
use Rattle.run_theory.specs.Lists.{Each, IsIn}
use Rattle.sig_core.specs.declared.member.Member.{Member}
use Rattle.sig_core.specs.declared.member.TxId.{TxId}
use Rattle.sig_core.specs.declared.outs.Outgoing.{Outgoing}
use Rattle.sig_core.specs.declared.signal.Body.{Body}
use Rattle.sig_core.specs.declared.signal.Body.TheVariants.{Chain}
use Rattle.sig_core.specs.declared.signal.chain.ChainSignal.TheVariants.{LqhKeyReq}
use Rattle.sig_core.specs.Same.{same_key, same_tx}
use Rattle.sig_core.specs.Work.{work_key}
use Rattle.tc_block.specs.declared.transaction.Transaction.{Transaction}
use Rattle.tc_block.specs.Doom.{is_undecided}
use Rattle.lqh_block.specs.declared.request.Request.{Request}
use Rattle.lqh_views.specs.State.{ReplicaState}
use Rattle.key_laws.specs.Replica.{at_key}
use Rattle.run_laws.specs.Transit.{joined}
use Rattle.run_laws.proofs.transit.Weighing.{joined_each}
use Rattle.run_laws.specs.Tokens.{is_token}
use Rattle.world_core.specs.Start.{Start, made}
use Rattle.world_core.specs.Steps.{Addressed, HostStep}
use Rattle.world_views.specs.Machine.{signals_of, step_after}
use Rattle.view_laws.specs.Order.{is_sound, sound_machine}
use Rattle.view_laws.specs.Runs.{view_after}
use Rattle.view_laws.proofs.follow.Senders.{each_from}
use Rattle.moment_laws.specs.Moments.{IsMoment, current, logs_of}
use Rattle.moment_laws.specs.Places.{ldm_of}
use Rattle.outcome_laws.specs.Counts.{coordinator_member}
use Rattle.request_laws.specs.Blocks.{rows_after}
use Rattle.request_laws.specs.Drives.{asked_in, is_request}
use Rattle.request_laws.specs.Ways.{is_sent}
use Rattle.commit_laws.specs.Fates.{is_led_by_full}
use Rattle.commit_laws.specs.Going.{is_lost, own_live, own_log}
use Rattle.commit_laws.specs.Parts.{IsHale, IsOff, PartsStand, Tells, Told, part_of, performs}
use Rattle.commit_laws.specs.Settled.{IsSettledWith}
use Rattle.commit_laws.specs.Together.{Follows}
use Rattle.commit_laws.specs.Traces.{replica_at, rows_at}
use Rattle.commit_laws.specs.Transit.{AreInTransit, Takes}
use Rattle.commit_laws.proofs.views.AtEvents.{led_was}
use Rattle.commit_laws.proofs.fates.LostStays.{lost_stay}
use Rattle.commit_laws.proofs.records.MemberKeeps.{KeepsFor, keeps_self}
use Rattle.commit_laws.proofs.parts.Rests.{rests_stay}
use Rattle.commit_laws.proofs.parts.Quiet.{no_part}
use Rattle.commit_laws.proofs.parts.TellsKept.{tells_still, told_still}
use Rattle.commit_laws.proofs.links.TransitCounts.{takes_less}

-- what is so of the bodies of all that blocks send is so of those of the signals
pub bodies_sent : (start : Start) (h : ℕ) (log : List HostStep) (e : HostStep) (Q : Body → Type 0)
    → Each (λ (o : Outgoing). Q o.body) (step_after start h log e).effects.sends
    → Each (λ (x : Addressed). Q x.signal.body) (sent_by (sound_machine start) h log e)
bodies_sent start h log e Q all =
    sent_by_each (sound_machine start) (λ (x : Addressed). Q x.signal.body) h log e
    (λ goes. each_filter (λ (x : Addressed). Q x.signal.body) (is_sound start) (signals_of start h log e)
    (each_map _ _ (signals_of start h log e)
    (λ x one. subst Q (sym one.body) (each_in (λ (o : Outgoing). Q o.body) one.sent _ all one.there))
    (each_from start h log e)))

-- where no token is sent no request is
pub no_request : (tx : TxId) (sends : List Outgoing) → Each (λ (o : Outgoing). is_token tx o.body ≡ false) sends
    → is_sent (is_request tx) sends ≡ false
no_request tx [] none = refl
no_request tx (o ∷ sends) none =
    ap (λ b. b || is_sent (is_request tx) sends) (one o.body none.0) ∙ no_request tx sends none.1
  where
    one : (body : Body) → is_token tx body ≡ false → is_request tx body ≡ false
    one (Chain (LqhKeyReq other w chain at)) off = off
    one body off = refl

module _ (start : Start) (all : ℕ → List HostStep) (e : HostStep) (es : List HostStep)
    (follows : Follows start all e es)
    (xs between : List Addressed) (transit : AreInTransit start es xs) (takes : Takes start e xs between)
    (same : current start (logs_of start (e ∷ es)) ≡ current start (logs_of start es)) (tx : TxId)
  where
    abbrev old : ℕ → List HostStep
    old = logs_of start es

    abbrev new : ℕ → List HostStep
    new = logs_of start (e ∷ es)

    abbrev member : Member
    member = coordinator_member tx

    abbrev moment : IsMoment start all (e ∷ es)
    moment = follows.moment

    abbrev pub sent_now : List Addressed
    sent_now = sent_by (sound_machine start) e.host (logs_of start es e.host) e

    abbrev parts : PartsStand start old xs
    parts = follows.stood.parts xs transit

    abbrev number_is : (current start new).number ≡ (current start old).number
    number_is = ap (λ v. v.number) same

    -- what stands of a transaction behind the event
    pub record PartsOf (u : Transaction) : Type 0 where
      pub signals : (key : List ℕ)
          → Each (λ (x : Addressed). x.signal.view.number ≡ (current start (logs_of start (e ∷ es))).number
          → Told start (logs_of start (e ∷ es)) key tx u (part_of tx key x.signal.body)) (joined sent_now between)
      pub waits : (key : List ℕ) (m : Member) → IsIn m (made start)
          → (view_after start (ldm_of start m) (logs_of start (e ∷ es) (ldm_of start m))).number
          ≡ (current start (logs_of start (e ∷ es))).number
          → Each (λ (q : Request). same_tx q.tx tx ≡ true → same_key (work_key q.work) key ≡ true
          → Tells start (logs_of start (e ∷ es)) key tx u (performs q.work q.at))
          (rows_at start (logs_of start (e ∷ es)) m).lqh.waiting
      pub rests : (key : List ℕ) → IsOff start (logs_of start (e ∷ es)) key tx u u.asked
          → IsSettledWith start (logs_of start (e ∷ es)) key tx u.ops

    -- who goes on behind the event went on before it
    pub hale_was : (u t : Transaction) → IsHale start (logs_of start (e ∷ es)) tx u
        → IsIn (coordinator_member tx) (made start)
        → own_live start (logs_of start es) tx ≡ Some t → is_undecided t.phase ≡ true
        → (t.asked ≡ None) ⊎ (asked_in start (coordinator_member tx) tx (own_log start (logs_of start es) tx)
        ≡ (current start (logs_of start es)).number)
        → IsHale start (logs_of start es) tx t
    hale_was u t hale there is undecided fresh = record {
      there = is;
      undecided = undecided;
      full = led_was start all e es moment tx hale.full;
      spared = by (is_lost start old tx) refl;
      fresh = fresh;
    }
      where
        by : (b : Bool) → is_lost start old tx ≡ b → b ≡ false
        by false is = refl
        by true lost =
            absurd (true≢false (sym (lost_stay start all e es moment tx there lost) ∙ hale.spared))

    -- where the rows are as they were
    module _ (still : (m : Member) → IsIn m (made start)
        → logs_of start (e ∷ es) (ldm_of start m) ≡ logs_of start es (ldm_of start m))
      where
        rows_still : (m : Member) → IsIn m (made start) → rows_at start new m ≡ rows_at start old m
        rows_still m there = ap (rows_after start m) (still m there)

        pub members_still : (key : List ℕ) (m : Member) → IsIn m (made start)
            → KeepsFor tx (replica_at start (logs_of start es) m key) (replica_at start (logs_of start (e ∷ es)) m key)
        members_still key m there =
            subst (λ (s : ReplicaState). KeepsFor tx (replica_at start old m key) (at_key key s.lqh))
            (sym (rows_still m there))
            (keeps_self tx (replica_at start old m key))

        -- and nothing of it is sent, and nothing of it changes
        module _ (t u : Transaction) (hale : IsHale start (logs_of start es) tx t)
            (led : is_led_by_full start (logs_of start (e ∷ es)) tx ≡ true) (ops : u.ops ≡ t.ops)
            (asked : u.asked ≡ t.asked)
            (none : Each (λ (x : Addressed). is_token tx x.signal.body ≡ false) sent_now)
          where
            told_on : (key : List ℕ) (x : Addressed)
                → (x.signal.view.number ≡ (current start old).number → Told start old key tx t
                (part_of tx key x.signal.body))
                → x.signal.view.number ≡ (current start new).number
                → Told start new key tx u (part_of tx key x.signal.body)
            told_on key x was here =
                told_still start all e es moment follows.stood.commits same key tx (members_still key) t u ops asked
                (part_of tx key x.signal.body) (was (here ∙ number_is))

            wait_on : (key : List ℕ) (q : Request)
                → (same_tx q.tx tx ≡ true → same_key (work_key q.work) key ≡ true
                → Tells start old key tx t (performs q.work q.at))
                → same_tx q.tx tx ≡ true → same_key (work_key q.work) key ≡ true
                → Tells start new key tx u (performs q.work q.at)
            wait_on key q was own here =
                tells_still start all e es moment follows.stood.commits same key tx (members_still key) t u ops asked
                (performs q.work q.at) (was own here)

            pub goes_on_so : PartsOf u
            goes_on_so = record {
              signals = λ key.
                  joined_each _ sent_now between
                  (each_map (λ (x : Addressed). is_token tx x.signal.body ≡ false) _ sent_now
                  (λ x off here. subst (Told start new key tx u) (sym (no_part tx key x.signal.body off)) tt) none)
                  (each_map _ _ between (told_on key)
                  (takes_less start _ e xs between takes (parts.signals tx t hale key)));
              waits = λ key m there stands.
                  subst
                  (λ (s : ReplicaState). Each
                  (λ (q : Request). same_tx q.tx tx ≡ true → same_key (work_key q.work) key ≡ true
                  → Tells start new key tx u (performs q.work q.at)) s.lqh.waiting)
                  (sym (rows_still m there))
                  (each_map _ _ (rows_at start old m).lqh.waiting (wait_on key)
                  (parts.waits tx t hale key m there
                  (ap (λ log. (view_after start (ldm_of start m) log).number) (sym (still m there))
                  ∙ (stands ∙ number_is))));
              rests = λ key off.
                  subst (IsSettledWith start new key tx) (sym ops)
                  (rests_stay start all e es follows xs between transit takes tx t hale key same led
                  (subst (IsOff start old key tx t) asked off));
            }
