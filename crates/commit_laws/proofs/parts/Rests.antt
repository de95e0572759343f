-- At an event in the current view: a key on which a transaction that goes on has nothing unanswered stays settled.
use Rattle.std.proofs.Common.{◌≡◌, ◌&&◌, ◌==◌, ◌||◌, ◌∙◌, ℕ, Bool, true, false, List, ◌∷◌, refl, sym, ap, subst, inr}
use Rattle.std.proofs.Common.{arith}
use Rattle.std.proofs.lemmas.Bool.{true≢false}
use Rattle.std.specs.List.{slice_get}
use Rattle.std.specs.Prelude.{not, Option, None, Some}
use Rattle.frag_map.specs.Layout.{chain_of}
use Rattle.run_theory.proofs.Pasts.{each_map}
use Rattle.run_theory.specs.Lists.{Each, IsIn}
use Rattle.sig_core.specs.declared.member.Member.{Member}
use Rattle.sig_core.specs.declared.member.TxId.{TxId}
use Rattle.sig_core.specs.declared.op.Op.{Op}
use Rattle.sig_core.specs.declared.signal.Signal.{Signal}
use Rattle.sig_core.specs.declared.signal.Body.TheVariants.{Chain}
use Rattle.sig_core.specs.declared.signal.chain.ChainSignal.{ChainSignal}
use Rattle.sig_core.specs.declared.signal.chain.ChainSignal.TheVariants.{Abort, Commit, Complete, LqhKeyReq}
use Rattle.sig_core.specs.declared.signal.chain.RowWork.{RowWork}
use Rattle.sig_core.specs.declared.signal.chain.RowWork.TheVariants.{Operate, Store}
use Rattle.sig_core.specs.declared.view.View.{View}
use Rattle.sig_core.specs.Op.{key_of}
use Rattle.sig_core.specs.Same.{same_key, same_tx}
use Rattle.sig_core.specs.Work.{work_key}
use Rattle.sig_core.proofs.Keys.{same_tx-self}
use Rattle.tc_block.specs.declared.phase.Asked.{Asked}
use Rattle.tc_block.specs.declared.transaction.Transaction.{Transaction}
use Rattle.lqh_block.specs.declared.request.Request.{Request}
use Rattle.lqh_views.specs.State.{ReplicaState}
use Rattle.key_laws.specs.Replica.{asks_for}
use Rattle.node_views.specs.WellFormed.{is_well_formed}
use Rattle.world_core.specs.Start.{Start, made}
use Rattle.world_core.specs.Steps.{Addressed, HostStep}
use Rattle.world_views.specs.Sending.{is_own_work}
use Rattle.view_laws.specs.Order.{sound_machine}
use Rattle.view_laws.specs.Runs.{view_after}
use Rattle.moment_laws.specs.Moments.{IsMoment, current, logs_of}
use Rattle.moment_laws.specs.Places.{ldm_of}
use Rattle.moment_laws.proofs.MomentTurns.{current_rises}
use Rattle.moment_laws.proofs.MomentViews.{current_above, current_number, moment_less}
use Rattle.request_laws.specs.Routed.{layout_in}
use Rattle.request_laws.proofs.tokens.HostsApart.{ldm_low}
use Rattle.commit_laws.specs.Fates.{fate, is_led_by_full}
use Rattle.commit_laws.specs.Forth.{IsForth, TellsForth}
use Rattle.commit_laws.specs.Going.{is_forth}
use Rattle.commit_laws.specs.Parts.{IsAsked, IsHale, IsOff, PartsStand, Tells, Told, part_if, part_of, performs}
use Rattle.commit_laws.specs.Settled.{IsPrimary, IsSettledWith}
use Rattle.commit_laws.specs.Speaks.{SaysAbort}
use Rattle.commit_laws.specs.Together.{Follows}
use Rattle.commit_laws.specs.Traces.{IsReplicaOf, rows_at}
use Rattle.commit_laws.specs.Transit.{AreInTransit, Takes, is_closing}
use Rattle.commit_laws.proofs.forth.All.{forth_is_known}
use Rattle.commit_laws.proofs.fates.Going.{IsNotAt, hale_fate, hale_ways, others_do}
use Rattle.commit_laws.proofs.records.MemberKeeps.{IsOfOther, member_keeps}
use Rattle.commit_laws.proofs.hosts.RowsTurn.{IsBetween, IsTakenAt, as_was, entered}
use Rattle.commit_laws.proofs.settled.Kept.{settled_kept}
use Rattle.commit_laws.proofs.links.TakenChains.{chain_number, chain_told}
use Rattle.commit_laws.proofs.links.TransitCounts.{each_taken}

module _ (start : Start) (all : ℕ → List HostStep) (e : HostStep) (es : List HostStep)
    (follows : Follows start all e es)
    (xs between_xs : List Addressed) (transit : AreInTransit start es xs) (takes : Takes start e xs between_xs)
  where
    abbrev old : ℕ → List HostStep
    old = logs_of start es

    abbrev new : ℕ → List HostStep
    new = logs_of start (e ∷ es)

    abbrev x : Signal
    x = e.step.taken

    abbrev moment : IsMoment start all (e ∷ es)
    moment = follows.moment

    abbrev before : IsMoment start all es
    before = moment_less start all e es follows.moment

    abbrev pub parts : PartsStand start (logs_of start es) xs
    parts = follows.stood.parts xs transit

    -- a link gave a signal about a chain
    pub link_gave : is_well_formed start.shape e.step.taken ≡ true → (signal : ChainSignal)
        → e.step.taken.body ≡ Chain signal
        → ((sound_machine start).asked e || is_closing e.step.taken.body) ≡ false
    link_gave sound signal is =
        (λ i. (((x.from.0 == e.host) && is_own_work (is i)) || not (sound i)) || is_closing (is i))
        ∙ none (x.from.0 == e.host)
      where
        none : (own : Bool) → (((own && false) || not true) || false) ≡ false
        none true = refl
        none false = refl

    module _ (tx : TxId) (t : Transaction) (hale : IsHale start (logs_of start es) tx t) (key : List ℕ) where
      -- what its unanswered operation isn't on
      pub off_asked : IsOff start (logs_of start es) key tx t t.asked → (op : Op)
          → IsAsked start (logs_of start es) key tx t op → ⊥
      off_asked off op asks = by t.asked off asks.is
        where
          by : (o : Option Asked) → IsOff start old key tx t o → o ≡ Some asks.asked → ⊥
          by None off is = absurd cc
          by (Some a) off is =
              let same : a ≡ asks.asked = cc in
              true≢false (sym asks.here
              ∙ (λ i. same_key (key_of (sym asks.op_is i)) key)
              ∙ (λ i. same_key (key_of (sym same i).op) key)
              ∙ off)

      tells_asked : (w : RowWork) (at : ℕ) → Tells start old key tx t (performs w at)
          → (op : Op) × IsAsked start old key tx t op
      tells_asked (Operate op) at tells = (op, tells.0)
      tells_asked (Store own image) at tells = (tells.op, tells.asks)

      -- no request of it for such a key is taken, or waits
      module _ (off : IsOff start (logs_of start es) key tx t t.asked) (member : Member)
          (there : IsIn member (made start))
          (s : ReplicaState) (between : IsBetween start all e es follows.moment member there s)
          (taken : IsTakenAt start all e es follows.moment member there s) where
        none_taken : (w : RowWork) (chain : List Member) (at : ℕ) → x.body ≡ Chain (LqhKeyReq tx w chain at)
            → same_key (work_key w) key ≡ true → ⊥
        none_taken w chain at is here =
            let told : Told start old key tx t (part_of tx key x.body) =
            each_taken start
            (λ (y : Addressed). y.signal.view.number ≡ (current start old).number
            → Told start old key tx t (part_of tx key y.signal.body)) e xs between_xs takes
            (link_gave taken.now.sound (LqhKeyReq tx w chain at) is) (parts.signals tx t hale key)
            (chain_number start all e es moment taken.now (LqhKeyReq tx w chain at) is) in
            let part : part_of tx key x.body ≡ Some (performs w at) =
            ap (part_of tx key) is ∙ (λ i. part_if (performs w at) (same_tx-self tx i && here i)) in
            let one = tells_asked w at (subst (Told start old key tx t) part told) in
            off_asked off one.0 one.1

        stood_now : view_after start (ldm_of start member) (e ∷ old (ldm_of start member))
            ≡ view_after start (ldm_of start member) (old (ldm_of start member))
            → (view_after start (ldm_of start member) (old (ldm_of start member))).number ≡ (current start old).number
        stood_now stays =
            let stood : (view_after start (ldm_of start member) (old (ldm_of start member))).number
            ≡ current_number start new =
            sym (ap (λ (v : View). v.number) stays)
            ∙ (ap (λ k. (view_after start k (e ∷ old k)).number) (sym taken.at)
            ∙ ap (λ (v : View). v.number) taken.now.stands) in
            let up = current_above start old follows.moment.cluster.nobody (ldm_of start member)
            (ldm_low start follows.moment.cluster.nobody member there) in
            let rises = current_rises start all e es moment in
            omega (arith, up, rises, stood)

        none_waits : Each (λ (q : Request). asks_for key q ≡ true → same_tx q.tx tx ≡ false) s.lqh.waiting
        none_waits = by between
          where
            one : (q : Request)
                → (same_tx q.tx tx ≡ true → same_key (work_key q.work) key ≡ true
                → Tells start old key tx t (performs q.work q.at))
                → asks_for key q ≡ true → same_tx q.tx tx ≡ false
            one q tells here = own (same_tx q.tx tx) refl
              where
                own : (b : Bool) → same_tx q.tx tx ≡ b → b ≡ false
                own false is = refl
                own true is =
                    let found = tells_asked q.work q.at (tells is here) in absurd (off_asked off found.0 found.1)

            by : IsBetween start all e es moment member there s
                → Each (λ (q : Request). asks_for key q ≡ true → same_tx q.tx tx ≡ false) s.lqh.waiting
            by (as_was is stays) =
                subst
                (λ (s : ReplicaState). Each (λ (q : Request). asks_for key q ≡ true → same_tx q.tx tx ≡ false)
                s.lqh.waiting)
                (sym is)
                (each_map _ _ (rows_at start old member).lqh.waiting one
                (parts.waits tx t hale key member there (stood_now stays)))
            by (entered view is) =
                subst
                (λ (s : ReplicaState). Each (λ (q : Request). asks_for key q ≡ true → same_tx q.tx tx ≡ false)
                s.lqh.waiting)
                (sym is) tt

        not_forth : is_forth start old tx ≡ true → ⊥
        not_forth is = true≢false (sym is ∙ (hale_ways start all es before tx t hale).0)

        none_there : IsNotAt key tx s x
        none_there = record {
          asked = none_taken;
          waits = none_waits;
          committed = λ own epoch chain at is.
              not_forth (subst (TellsForth (IsForth start old)) is
              (chain_told start all e es moment taken.now (Commit tx own epoch chain at) is
              (λ (y : Addressed). TellsForth (IsForth start old) y.signal.body)
              (forth_is_known start all es before).signals));
          completed = λ own chain at is.
              not_forth (subst (TellsForth (IsForth start old)) is
              (chain_told start all e es moment taken.now (Complete tx own chain at) is
              (λ (y : Addressed). TellsForth (IsForth start old) y.signal.body)
              (forth_is_known start all es before).signals));
          aborted = λ own is.
              hale_fate start all es before tx t hale
              (subst (SaysAbort (fate start old)) is
              (chain_told start all e es moment taken.now (Abort tx own) is
              (λ (y : Addressed). SaysAbort (fate start old) y.signal.body) follows.stood.spoken.aborts_said));
        }

      -- so what rows do on the key is of others
      pub of_others : IsOff start (logs_of start es) key tx t t.asked
          → (member : Member) (there : IsIn member (made start))
          → IsOfOther start all e es follows.moment member there key tx
      of_others off member there s between taken = others_do key tx s x (none_there off member there s between taken)

      -- and what is settled stays so
      pub rests_stay : current start (logs_of start (e ∷ es)) ≡ current start (logs_of start es)
          → is_led_by_full start (logs_of start (e ∷ es)) tx ≡ true → IsOff start (logs_of start es) key tx t t.asked
          → IsSettledWith start (logs_of start (e ∷ es)) key tx t.ops
      rests_stay same led off =
          settled_kept start all e es moment follows.stood.commits key tx t.ops
          (record { primary = λ m is. inr (as_old m is); written = λ wrote m is. as_new m is })
          (λ m there. member_keeps start all e es moment m there key tx led (of_others off m there))
          (parts.rests tx t hale key off)
        where
          as_old : (m : Member) → IsPrimary start new key m → IsPrimary start old key m
          as_old m is = subst (λ v. slice_get (chain_of (layout_in start v) key) 0 ≡ Some m) same is

          as_new : (m : Member) → IsReplicaOf start old key m → IsReplicaOf start new key m
          as_new m is = record {
            full = subst (λ (v : View). IsIn m v.full) (sym same) is.full;
            chained = subst (λ v. IsIn m (chain_of (layout_in start v) key)) (sym same) is.chained;
          }
