-- The parts of a transaction's operations behind an event of its coordinator's host in the current view.
use Rattle.std.proofs.Common.{◌≡◌, ◌≤◌, ◌⊎◌, ◌&&◌, ◌==◌, ◌||◌, ◌+◌, ◌++◌, ◌∙◌, ℕ, Bool, true, false, List, [], ◌∷◌}
use Rattle.std.proofs.Common.{eq-eqb, refl, sym, ap, subst, inl, inr, arith}
use Rattle.std.proofs.lemmas.Bool.{and_parts, eqb-true, true≢false}
use Rattle.std.specs.List.{list_any}
use Rattle.std.specs.Prelude.{if◌then◌else◌, is_some, None, Some}
use Rattle.run_theory.proofs.Pasts.{each_append, each_map}
use Rattle.run_theory.proofs.Runs.{log_of-other, log_of-own}
use Rattle.run_theory.specs.Lists.{Each, IsIn}
use Rattle.frag_map.specs.Layout.{chain_of}
use Rattle.sig_core.specs.declared.member.Member.{Member}
use Rattle.sig_core.specs.declared.member.TxId.{TxId}
use Rattle.sig_core.specs.declared.op.Answer.{Answer}
use Rattle.sig_core.specs.declared.op.Op.{Op}
use Rattle.sig_core.specs.declared.outs.Outgoing.{Outgoing}
use Rattle.sig_core.specs.declared.place.BlockId.TheVariants as block
use Rattle.sig_core.specs.declared.signal.Body.{Body}
use Rattle.sig_core.specs.declared.signal.Body.TheVariants.{Chain}
use Rattle.sig_core.specs.declared.signal.Signal.{Signal}
use Rattle.sig_core.specs.declared.signal.chain.ChainSignal.TheVariants.{LqhKeyConf}
use Rattle.sig_core.specs.declared.signal.chain.RowWork.TheVariants.{Operate}
use Rattle.sig_core.specs.Op.{key_of}
use Rattle.sig_core.specs.Same.{same_key, same_tx}
use Rattle.sig_core.specs.Work.{work_key}
use Rattle.sig_core.proofs.Keys.{same_tx-self}
use Rattle.tc_block.specs.declared.phase.Asked.{Asked}
use Rattle.tc_block.specs.declared.transaction.Transaction.{Transaction}
use Rattle.tc_block.specs.Doom.{is_undecided}
use Rattle.tc_block.specs.Operate.{fresh}
use Rattle.tc_block.specs.Complete.{one_if}
use Rattle.row_records.proofs.KeyLemmas as index
use Rattle.lqh_block.specs.declared.request.Request.{Request}
use Rattle.lqh_views.specs.State.{ReplicaState}
use Rattle.key_laws.specs.OneKey.{AreRight, ops_on, row_after_all}
use Rattle.row_locks.specs.Holders.{holds}
use Rattle.world_core.specs.History.{is_done}
use Rattle.run_laws.proofs.circle.OthersStay.{filter-end}
use Rattle.run_laws.specs.Transit.{joined}
use Rattle.run_laws.proofs.transit.Weighing.{joined_each}
use Rattle.run_laws.specs.Tokens.{is_token}
use Rattle.world_core.specs.Start.{Start, made}
use Rattle.world_core.specs.Steps.{Addressed, HostStep}
use Rattle.world_views.specs.Machine.{machine, step_after}
use Rattle.view_laws.specs.Order.{sound_machine}
use Rattle.view_laws.specs.Runs.{view_after}
use Rattle.moment_laws.specs.Moments.{IsMoment, current, logs_of}
use Rattle.moment_laws.specs.PartSteps.{tc_kind}
use Rattle.moment_laws.specs.Places.{ldm_of, tc_of}
use Rattle.moment_laws.proofs.MomentMembers.{current_made}
use Rattle.moment_laws.proofs.MomentViews.{moment_less}
use Rattle.moment_laws.proofs.PartKinds.{tc_is}
use Rattle.moment_laws.proofs.PartTaken.{IsTakenNow, handled_now}
use Rattle.outcome_laws.specs.Counts.{coordinator_member, count_sent}
use Rattle.outcome_laws.proofs.coordinators.Lists.{count_both, count_more, none_passes}
use Rattle.request_laws.specs.Blocks.{coordinator_after, rows_after}
use Rattle.request_laws.specs.Drives.{asked_in}
use Rattle.request_laws.specs.Routed.{layout_in}
use Rattle.request_laws.specs.Tokens.{IsAlone, has_asked, number_now}
use Rattle.request_laws.specs.Ways.{entry_of, has_gone_back}
use Rattle.request_laws.proofs.routes.Headers.{chain_fenced}
use Rattle.request_laws.proofs.tokens.Alone.{taken_alone}
use Rattle.request_laws.proofs.tokens.CoordinatorEvents.{IsHandled, StepTokens, always_fits, step_tokens}
use Rattle.request_laws.proofs.tokens.HostsApart.{ldm_no_tc}
use Rattle.request_laws.proofs.tokens.Steps.{TokenMove, quiet, sends_one}
use Rattle.commit_laws.specs.Going.{own_live, own_log}
use Rattle.commit_laws.specs.Parts.{IsHale, IsOff, Tells, Told, answers, part_if, part_of, performs}
use Rattle.commit_laws.specs.Settled.{HasImageIf, IsSettledWith, is_changing}
use Rattle.commit_laws.specs.Together.{Follows}
use Rattle.commit_laws.specs.Traces.{record_at, replica_at, rows_at}
use Rattle.commit_laws.specs.Transit.{AreInTransit, Takes, is_closing}
use Rattle.commit_laws.proofs.fates.Going.{hale_made}
use Rattle.commit_laws.proofs.parts.Hosts.{EntryGoes, Sends, begun, entry_goes, kept, moved}
use Rattle.commit_laws.proofs.parts.Own.{PartsOf, bodies_sent, goes_on_so, hale_was, members_still, no_request}
use Rattle.commit_laws.proofs.parts.Own.{sent_now}
use Rattle.commit_laws.proofs.parts.Rests.{link_gave, rests_stay}
use Rattle.commit_laws.proofs.parts.Turns.{asks, gets, request_of, rests}
use Rattle.commit_laws.proofs.parts.Quiet.{IsIdle, idle_told, idle_waits, no_part, unasked_idle}
use Rattle.commit_laws.proofs.parts.TellsKept.{settled_still}
use Rattle.commit_laws.proofs.links.TransitCounts.{each_taken, takes_less}

-- whoever begins has no record anywhere
abbrev pub BegunHaveNone : Type 0
BegunHaveNone =
    (start : Start) (all : ℕ → List HostStep) (e : HostStep) (es : List HostStep) → IsMoment start all (e ∷ es)
    → (tx : TxId) → IsIn (coordinator_member tx) (made start) → own_live start (logs_of start es) tx ≡ None
    → own_live start (logs_of start (e ∷ es)) tx ≡ Some fresh → (m : Member) → IsIn m (made start) → (key : List ℕ)
    → record_at start (logs_of start (e ∷ es)) m key tx ≡ None

-- what is settled depends on the operations on the key
pub settled_by : (start : Start) (logs : ℕ → List HostStep) (key : List ℕ) (tx : TxId) (ops more : List (Op × Answer))
    → ops_on key ops ≡ ops_on key more → IsSettledWith start logs key tx ops → IsSettledWith start logs key tx more
settled_by start logs key tx ops more same settled = record {
  right = λ p is. subst (AreRight (replica_at start logs p key).cell.row) same (settled.right p is);
  images = λ p is m replica.
      subst (λ w. HasImageIf (list_any (λ (op : Op × Answer). is_done op.1) w)
      (row_after_all (replica_at start logs p key).cell.row w) (record_at start logs m key tx)) same
      (settled.images p is m replica);
  others = settled.others;
  held = λ p is.
      subst (λ w. (w ≡ []) ⊎ (holds tx (replica_at start logs p key).lock.holders ≡ true)) same (settled.held p is);
  exclusive = λ p is changing. settled.exclusive p is (ap is_changing same ∙ changing);
}

-- of no operations it is, where nobody has a record
pub settled_none : (start : Start) (all : ℕ → List HostStep) (es : List HostStep) → IsMoment start all es
    → (key : List ℕ)
    (tx : TxId) → ((m : Member) → IsIn m (made start) → record_at start (logs_of start es) m key tx ≡ None)
    → IsSettledWith start (logs_of start es) key tx []
settled_none start all es moment key tx none = record {
  right = λ p is. tt;
  images = λ p is m replica. none m (current_made start all es moment m replica.full);
  others = λ m there off. none m there;
  held = λ p is. inl refl;
  exclusive = λ p is changing. absurd (true≢false (sym changing));
}

not_either : (a b : Bool) → (a || b) ≡ false → a ≡ false
not_either true b none = none
not_either false b none = refl

module _ (start : Start) (all : ℕ → List HostStep) (e : HostStep) (es : List HostStep)
    (follows : Follows start all e es)
    (xs between : List Addressed) (transit : AreInTransit start es xs) (takes : Takes start e xs between)
    (same : current start (logs_of start (e ∷ es)) ≡ current start (logs_of start es)) (tx : TxId)
    (home : e.host ≡ tc_of start (coordinator_member tx)) (u : Transaction)
    (hale : IsHale start (logs_of start (e ∷ es)) tx u) (fresh_none : BegunHaveNone)
  where
    abbrev old : ℕ → List HostStep
    old = logs_of start es

    abbrev new : ℕ → List HostStep
    new = logs_of start (e ∷ es)

    abbrev member : Member
    member = coordinator_member tx

    abbrev h : ℕ
    h = tc_of start member

    abbrev x : Signal
    x = e.step.taken

    abbrev moment : IsMoment start all (e ∷ es)
    moment = follows.moment

    abbrev before : IsMoment start all es
    before = moment_less start all e es follows.moment

    abbrev sends : List Outgoing
    sends = (step_after start h (old h) e).effects.sends

    abbrev Now : Type 0
    Now = PartsOf start all e es follows xs between transit takes same tx u

    there : IsIn member (made start)
    there = hale_made start all (e ∷ es) moment tx u hale

    own_new : new h ≡ e ∷ old h
    own_new = log_of-own (machine start) e es h home

    entry_now : entry_of (coordinator_after start member (e ∷ old h)) tx ≡ Some u
    entry_now = ap (λ log. entry_of (coordinator_after start member log) tx) (sym own_new) ∙ hale.there

    still : (m : Member) → IsIn m (made start) → new (ldm_of start m) ≡ old (ldm_of start m)
    still m among =
        log_of-other (machine start) e es (ldm_of start m)
        (λ is. ldm_no_tc start follows.moment.cluster.nobody m member among there (sym is ∙ home))

    abbrev number_is : (current start new).number ≡ (current start old).number
    number_is = ap (λ v. v.number) same

    transit_now : AreInTransit start (e ∷ es)
        (joined (sent_now start all e es follows xs between transit takes same tx) between)
    transit_now = (xs, (transit, record { between = between; takes = takes; is = refl }))

    -- tokens that the host sends
    tokens : StepTokens start member there tx refl (old h) e
    tokens = step_tokens start member there tx refl follows.moment.cluster.nobody (old h) e
        (always_fits start member there tx refl follows.moment.cluster.nobody (old h))

    abbrev was_asked : Bool
    was_asked = has_asked (entry_of (coordinator_after start member (old h)) tx)

    abbrev is_asked_now : Bool
    is_asked_now = has_asked (entry_of (coordinator_after start member (e ∷ old h)) tx)

    none_sent : (is_asked_now ≡ true → was_asked ≡ true) → count_sent (is_token tx) sends ≡ 0
    none_sent on = by tokens.step.moves
      where
        by : TokenMove tx tokens.body (has_gone_back start member tx (old h))
            (entry_of (coordinator_after start member (old h)) tx)
            (entry_of (coordinator_after start member (e ∷ old h)) tx) sends → count_sent (is_token tx) sends ≡ 0
        by (quiet none goes) = none
        by (sends_one one request none asked off) = absurd (true≢false (sym (on asked) ∙ none))

    few_sent : count_sent (is_token tx) sends ≤ 1
    few_sent = by tokens.step.moves
      where
        by : TokenMove tx tokens.body (has_gone_back start member tx (old h))
            (entry_of (coordinator_after start member (old h)) tx)
            (entry_of (coordinator_after start member (e ∷ old h)) tx) sends → count_sent (is_token tx) sends ≤ 1
        by (quiet none goes) = omega (arith, none)
        by (sends_one one request none asked off) = omega (arith, one)

    no_tokens : count_sent (is_token tx) sends ≡ 0 → Each (λ (o : Outgoing). is_token tx o.body ≡ false) sends
    no_tokens none = none_passes (λ (o : Outgoing). is_token tx o.body) sends none

    bodies : (Q : Body → Type 0) → Each (λ (o : Outgoing). Q o.body) sends
        → Each (λ (y : Addressed). Q y.signal.body) (sent_now start all e es follows xs between transit takes same tx)
    bodies Q all_so =
        bodies_sent start e.host (old e.host) e Q
        (subst (λ k. Each (λ (o : Outgoing). Q o.body) (step_after start k (old k) e).effects.sends) (sym home) all_so)

    -- what was asked for was so in this view, where nothing is asked for now
    asked_before : Each (λ (o : Outgoing). is_token tx o.body ≡ false) sends
        → asked_in start member tx (new h) ≡ asked_in start member tx (old h)
    asked_before none =
        ap (asked_in start member tx) own_new
        ∙ ap (λ b. if b then (view_after start h (e ∷ old h)).number else asked_in start member tx (old h))
        (no_request tx sends none)

    -- it is as it was
    unchanged : (t : Transaction) → own_live start old tx ≡ Some t → is_undecided t.phase ≡ true → u.ops ≡ t.ops
        → u.asked ≡ t.asked → Now
    unchanged t was undecided ops asked =
        goes_on_so start all e es follows xs between transit takes same tx still t u
        (hale_was start all e es follows xs between transit takes same tx u t hale there was undecided
        (fresh_was hale.fresh))
        hale.full ops asked (bodies (λ b. is_token tx b ≡ false) none)
      where
        none : Each (λ (o : Outgoing). is_token tx o.body ≡ false) sends
        none =
            no_tokens (none_sent (λ on.
            ap has_asked was ∙ (ap is_some (sym asked) ∙ (sym (ap has_asked entry_now) ∙ on))))

        fresh_was : (u.asked ≡ None) ⊎ (asked_in start member tx (own_log start new tx) ≡ (current start new).number)
            → (t.asked ≡ None) ⊎ (asked_in start member tx (own_log start old tx) ≡ (current start old).number)
        fresh_was (inl off) = inl (sym asked ∙ off)
        fresh_was (inr at) = inr (sym (asked_before none) ∙ (at ∙ number_is))

    -- where nothing is unanswered behind the event nothing is under way
    settles : u.asked ≡ None → ((key : List ℕ) → IsSettledWith start new key tx u.ops) → Now
    settles off settled =
        let idle = unasked_idle start all (e ∷ es) moment tx u hale _ transit_now off in
        record {
          signals = λ key. idle_told start all (e ∷ es) moment tx _ idle u key;
          waits = λ key m among stands. idle_waits start all (e ∷ es) moment tx _ idle u key m among stands;
          rests = λ key away. settled key;
        }

    -- it began
    begins_now : own_live start old tx ≡ None → u ≡ fresh → Now
    begins_now none is =
        settles (ap (λ (v : Transaction). v.asked) is)
        (λ key. subst (IsSettledWith start new key tx) (sym (ap (λ (v : Transaction). v.ops) is))
        (settled_none start all (e ∷ es) moment key tx
        (λ m among. fresh_none start all e es moment tx there none (hale.there ∙ ap Some is) m among key)))

    -- its operation is answered
    module _ (t : Transaction) (was : own_live start old tx ≡ Some t) (undecided : is_undecided t.phase ≡ true)
        (handled : IsHandled start h (old h) e block.Tc) (own : List ℕ) (answer : Answer) (asked : Asked)
        (is : x.body ≡ Chain (LqhKeyConf tx own answer)) (some : t.asked ≡ Some asked)
        (on : same_key (key_of asked.op) own ≡ true) (ops : u.ops ≡ t.ops ++ (asked.op, answer) ∷ [])
      where
        taken : IsTakenNow start all e es moment block.Tc
        taken =
            let at : IsHandled start e.host (old e.host) e block.Tc =
            subst (λ k. IsHandled start k (old k) e block.Tc) (sym home) handled in
            handled_now start all e es moment tc_kind tc_is at.own at.runs at.between at.front at.enters at.passed
            block.Tc
            at.block_is

        header : x.view.number ≡ (current start new).number
        header = taken.fresh (chain_fenced x (LqhKeyConf tx own answer) is)

        gave : ((sound_machine start).asked e || is_closing x.body) ≡ false
        gave =
            link_gave start all e es follows xs between transit takes taken.sound (LqhKeyConf tx own answer) is

        alone : IsAlone start old tx (number_now start new)
        alone =
            taken_alone start all e es moment tx there
            (not_either ((sound_machine start).asked e) (is_closing x.body) gave)
            (λ i. both (ap (is_token tx) is ∙ same_tx-self tx) (eq-eqb x.view.number (number_now start new) header) i)
          where
            both : {a b : Bool} → a ≡ true → b ≡ true → (a && b) ≡ true
            both one other = λ i. one i && other i

        hale_t : IsHale start old tx t
        hale_t =
            hale_was start all e es follows xs between transit takes same tx u t hale there was undecided
            (inr (eqb-true _ _ (and_parts (has_gone_back start member tx (old h) || was_asked)
            (asked_in start member tx (old h) == number_now start new) alone.may).1 ∙ number_is))

        told : (key : List ℕ) → Told start old key tx t (part_of tx key x.body)
        told key =
            each_taken start
            (λ (y : Addressed). y.signal.view.number ≡ (current start old).number
            → Told start old key tx t (part_of tx key y.signal.body)) e xs between takes gave
            ((follows.stood.parts xs transit).signals tx t hale_t key) (header ∙ number_is)

        answered_at : (key : List ℕ) → (b : Bool) → same_key own key ≡ b → IsSettledWith start new key tx u.ops
        answered_at key true here =
            subst (IsSettledWith start new key tx) (sym ops) (by tells)
          where
            tells : Tells start old key tx t (answers answer)
            tells =
                subst (Told start old key tx t)
                (ap (part_of tx key) is ∙ (λ i. part_if (answers answer) (same_tx-self tx i && here i))) (told key)

            by : Tells start old key tx t (answers answer)
                → IsSettledWith start new key tx (t.ops ++ (asked.op, answer) ∷ [])
            by (op, (asking, settled)) =
                let one : asked ≡ asking.asked =
                let two : Some asked ≡ Some asking.asked = sym some ∙ asking.is in cc in
                let op_is : op ≡ asked.op = sym asking.op_is ∙ ap (λ (a : Asked). a.op) (sym one) in
                settled_still start all e es moment follows.stood.commits same key tx
                (members_still start all e es follows xs between transit takes same tx still key)
                (t.ops ++ (asked.op, answer) ∷ [])
                (subst (λ o. IsSettledWith start old key tx (t.ops ++ (o, answer) ∷ [])) op_is settled)
        answered_at key false away =
            subst (IsSettledWith start new key tx) (sym ops)
            (settled_by start new key tx t.ops (t.ops ++ (asked.op, answer) ∷ [])
            (sym (filter-end (λ (op : Op × Answer). same_key (key_of op.0) key) t.ops (asked.op, answer) false off))
            (rests_stay start all e es follows xs between transit takes tx t hale_t key same hale.full
            (subst (IsOff start old key tx t) (sym some) off)))
          where
            off : same_key (key_of asked.op) key ≡ false
            off = ap (λ k. same_key k key) (index.same (key_of asked.op) own on) ∙ away

        answered_now : u.asked ≡ None → Now
        answered_now none = settles none (λ key. answered_at key (same_key own key) refl)

    -- an operation is asked for
    module _ (t : Transaction) (was : own_live start old tx ≡ Some t) (undecided : is_undecided t.phase ≡ true)
        (op : Op) (none : t.asked ≡ None) (ops : u.ops ≡ t.ops)
        (asked : u.asked ≡ Some (record {
          op = op;
          chain = chain_of (layout_in start (view_after start h (e ∷ old h))) (key_of op);
        }))
      where
        abbrev request : Outgoing
        request = request_of (layout_in start (view_after start h (e ∷ old h))) tx op

        hale_so : IsHale start old tx t
        hale_so =
            hale_was start all e es follows xs between transit takes same tx u t hale there was undecided (inl none)

        idle : IsIdle start all es before tx xs
        idle = unasked_idle start all es before tx t hale_so xs transit none

        settled_now : (key : List ℕ) → IsSettledWith start new key tx u.ops
        settled_now key =
            subst (IsSettledWith start new key tx) (sym ops)
            (rests_stay start all e es follows xs between transit takes tx t hale_so key same hale.full
            (subst (IsOff start old key tx t) (sym none) tt))

        asked_told : (key : List ℕ) → Told start new key tx u (part_of tx key request.body)
        asked_told key = by (same_key (key_of op) key) refl
          where
            part_is : (b : Bool) → same_key (key_of op) key ≡ b
                → part_of tx key request.body ≡ part_if (performs (Operate op) 0) b
            part_is b is = λ i. part_if (performs (Operate op) 0) (same_tx-self tx i && is i)

            by : (b : Bool) → same_key (key_of op) key ≡ b → Told start new key tx u (part_of tx key request.body)
            by true here =
                subst (Told start new key tx u) (sym (part_is true here))
                (record { asked = _; is = asked; op_is = refl; here = here }, settled_now key)
            by false away = subst (Told start new key tx u) (sym (part_is false away)) tt

        quiet_told : (key : List ℕ) (ys : List Outgoing) → count_sent (is_token tx) ys ≡ 0
            → Each (λ (o : Outgoing). Told start new key tx u (part_of tx key o.body)) ys
        quiet_told key ys zero =
            each_map (λ (o : Outgoing). is_token tx o.body ≡ false) _ ys
            (λ o off. subst (Told start new key tx u) (sym (no_part tx key o.body off)) tt)
            (none_passes (λ (o : Outgoing). is_token tx o.body) ys zero)

        sent_told : (key : List ℕ) (own : List Outgoing) → own ≡ request ∷ []
            → Sends start member there tx (old h) e u own ⊎ (sends ≡ [])
            → Each (λ (o : Outgoing). Told start new key tx u (part_of tx key o.body)) sends
        sent_told key own is (inr nothing) =
            subst (Each (λ (o : Outgoing). Told start new key tx u (part_of tx key o.body))) (sym nothing) tt
        sent_told key own is (inl out) =
            subst (Each (λ (o : Outgoing). Told start new key tx u (part_of tx key o.body))) (sym all_is)
            (each_append _ out.front (request ∷ out.more) (quiet_told key out.front front_none)
            (asked_told key, quiet_told key out.more more_none))
          where
            all_is : sends ≡ out.front ++ (request ∷ out.more)
            all_is = out.is ∙ ap (λ ys. out.front ++ (ys ++ out.more)) is

            token : is_token tx request.body ≡ true
            token = same_tx-self tx

            counted : count_sent (is_token tx) out.front + count_sent (is_token tx) (request ∷ out.more) ≤ 1
            counted =
                omega (
                  arith,
                  few_sent,
                  ap (count_sent (is_token tx)) all_is,
                  count_both (λ (o : Outgoing). is_token tx o.body) out.front (request ∷ out.more),
                )

            one : count_sent (is_token tx) (request ∷ out.more) ≡ 1 + count_sent (is_token tx) out.more
            one =
                count_more (λ (o : Outgoing). is_token tx o.body) request out.more
                ∙ ap (λ b. one_if b + count_sent (is_token tx) out.more) token

            front_none : count_sent (is_token tx) out.front ≡ 0
            front_none = omega (arith, counted, one)

            more_none : count_sent (is_token tx) out.more ≡ 0
            more_none = omega (arith, counted, one)

        asks_now : (own : List Outgoing) → own ≡ request ∷ []
            → Sends start member there tx (old h) e u own ⊎ (sends ≡ [])
            → Now
        asks_now own is out = record {
          signals = λ key.
              joined_each _ (sent_now start all e es follows xs between transit takes same tx) between
              (each_map (λ (y : Addressed). Told start new key tx u (part_of tx key y.signal.body)) _
              (sent_now start all e es follows xs between transit takes same tx) (λ y told here. told)
              (bodies (λ b. Told start new key tx u (part_of tx key b)) (sent_told key own is out)))
              (each_map
              (λ (y : Addressed). y.signal.view.number ≡ (current start old).number
              → part_of tx key y.signal.body ≡ None) _
              between (λ y off here. subst (Told start new key tx u) (sym (off (here ∙ number_is))) tt)
              (takes_less start _ e xs between takes (idle.signals key)));
          waits = λ key m among stands.
              subst
              (λ (s : ReplicaState). Each
              (λ (q : Request). same_tx q.tx tx ≡ true → same_key (work_key q.work) key ≡ true
              → Tells start new key tx u (performs q.work q.at)) s.lqh.waiting)
              (ap (rows_after start m) (sym (still m among)))
              (each_map _ _ (rows_at start old m).lqh.waiting (λ q off mine here. absurd (true≢false (sym mine ∙ off)))
              (idle.waits m among
              (ap (λ log. (view_after start (ldm_of start m) log).number) (sym (still m among))
              ∙ (stands ∙ number_is))));
          rests = λ key away. settled_now key;
        }

    pub home_parts : PartsOf start all e es follows xs between transit takes same tx u
    home_parts =
        by (entry_goes start member there tx (old h) e u follows.moment.cluster.nobody entry_now hale.undecided)
      where
        by : EntryGoes start member there tx (old h) e u → Now
        by (kept was) = unchanged u was hale.undecided refl refl
        by (begun none is) = begins_now none is
        by (moved t was undecided own (rests ops asked) handled out) = unchanged t was undecided ops asked
        by (moved t was undecided own (asks op none ops asked is) handled out) =
            asks_now t was undecided op none ops asked own is out
        by (moved t was undecided own (gets key answer asked is some on ops none) handled out) =
            answered_now t was undecided handled key answer asked is some on ops none
