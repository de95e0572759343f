-- What is routed stays so at each event, and blocks of whose host it isn't one have their routes behind it.
use Rattle.std.proofs.Common.{◌≡◌, ◌≢◌, ℕ, true, List, ◌∷◌, inl, inr, sym, subst}
use Rattle.run_theory.specs.Lists.{Each, IsIn}
use Rattle.run_theory.proofs.Pasts.{each_map}
use Rattle.run_theory.proofs.Runs.{log_of-other}
use Rattle.sig_core.specs.Place.{rows_of}
use Rattle.sig_core.specs.declared.member.Member.{Member}
use Rattle.sig_core.specs.declared.member.TxId.{TxId}
use Rattle.sig_core.specs.declared.place.Place.{Place}
use Rattle.sig_core.specs.declared.signal.Body.{Body}
use Rattle.sig_core.specs.declared.signal.Body.TheVariants.{Chain, Host}
use Rattle.sig_core.specs.declared.signal.chain.ChainSignal.TheVariants.{Abort, Aborted, Commit, Committed, Complete}
use Rattle.sig_core.specs.declared.signal.chain.ChainSignal.TheVariants.{Completed, LqhKeyConf, LqhKeyRef, LqhKeyReq}
use Rattle.sig_core.specs.declared.signal.host.HostSignal.TheVariants.{Continue}
use Rattle.sig_core.specs.declared.signal.host.Work.TheVariants.{Transaction as Sends}
use Rattle.sig_core.specs.declared.view.View.{View}
use Rattle.frag_map.specs.Layout.{Layout}
use Rattle.tc_block.specs.declared.transaction.Transaction.{Transaction}
use Rattle.lqh_block.specs.declared.request.Request.{Request}
use Rattle.lqh_views.specs.State.{ReplicaState}
use Rattle.world_core.specs.Start.{NobodyStarts, Start, made}
use Rattle.world_core.specs.Steps.{Addressed, HostStep}
use Rattle.world_views.specs.Machine.{machine}
use Rattle.view_laws.specs.Runs.{view_after}
use Rattle.moment_laws.specs.Moments.{logs_of}
use Rattle.moment_laws.specs.Places.{ldm_of, tc_of}
use Rattle.outcome_laws.specs.Counts.{coordinator_member}
use Rattle.request_laws.specs.Blocks.{coordinator_after, rows_after}
use Rattle.request_laws.specs.Drives.{is_commit, is_request, was_sent_in}
use Rattle.request_laws.specs.Phases.{CoordinatorStands}
use Rattle.request_laws.specs.Routed.{IsGivenUp, IsRoutedSignal, WasAskedIn, WasDrivenIn, layout_in}
use Rattle.request_laws.specs.Routes.{CoordinatorHasRoutes, IsRequestRouted, IsRouted, WaitsRouted}
use Rattle.request_laws.proofs.routes.Driven.{grows}
use Rattle.request_laws.proofs.routes.AskedOrDriven.{has_less}
use Rattle.request_laws.proofs.routes.Idle.{all_given}
use Rattle.request_laws.proofs.routes.Turns.{Grows, IsGiven}

module _ (layout : Layout) (A0 D0 G0 A D G : TxId → Type 0) (more : Grows A0 D0 G0 A D G) where
  -- where more is asked for, and driven
  pub routed_more : (to : Place) (body : Body) → IsRouted layout A0 D0 G0 to body → IsRouted layout A D G to body
  routed_more to (Chain (LqhKeyReq tx work chain at)) is = (is.0, more.asked tx is.1)
  routed_more to (Chain (LqhKeyConf tx key answer)) is = (is.0, more.asked tx is.1)
  routed_more to (Chain (LqhKeyRef tx key cause)) is = (is.0, more.asked tx is.1)
  routed_more to (Chain (Commit tx key epoch chain at)) is = (is.0, more.driven tx is.1)
  routed_more to (Chain (Complete tx key chain at)) is = (is.0, more.driven tx is.1)
  routed_more to (Chain (Committed tx key)) is = (is.0, more.driven tx is.1)
  routed_more to (Chain (Completed tx key)) is = (is.0, more.driven tx is.1)
  routed_more to (Chain (Abort tx key)) is = is
  routed_more to (Chain (Aborted tx key)) is = is
  routed_more to (Host (Continue (Sends tx) at)) (inl driven) = inl (more.driven tx driven)
  routed_more to (Host (Continue (Sends tx) at)) (inr given) = inr (more.given tx given)
  routed_more to _ is = tt

  pub waits_more : (s : ReplicaState) → WaitsRouted layout A0 D0 G0 s → WaitsRouted layout A D G s
  waits_more s all =
      each_map (λ (q : Request). IsRequestRouted layout (rows_of s.lqh.node) q × A0 q.tx)
      (λ (q : Request). IsRequestRouted layout (rows_of s.lqh.node) q × A q.tx) s.lqh.waiting
      (λ q is. (is.0, more.asked q.tx is.1)) all

module _ (start : Start) (e : HostStep) (es : List HostStep) where
  abbrev old : ℕ → List HostStep
  old = logs_of start es

  abbrev new : ℕ → List HostStep
  new = logs_of start (e ∷ es)

  -- a signal that was sent
  pub signal_stays : (x : Addressed) → IsRoutedSignal start old x → IsRoutedSignal start new x
  signal_stays x is =
      let view = x.signal.view in
      routed_more (layout_in start view) (WasAskedIn start old view) (WasDrivenIn start old view) (IsGivenUp start old)
      (WasAskedIn start new view) (WasDrivenIn start new view) (IsGivenUp start new) (grows start e es view) x.signal.to
      x.signal.body is

  module _ (member : Member) where
    -- what a coordinator has, by its log and these logs
    abbrev pub CoordinatorHas : (ℕ → List HostStep) → List HostStep → Type 0
    CoordinatorHas logs log =
        CoordinatorHasRoutes (layout_in start (view_after start (tc_of start member) log))
        (WasAskedIn start logs (view_after start (tc_of start member) log))
        (WasDrivenIn start logs (view_after start (tc_of start member) log)) (IsGivenUp start logs)
        (coordinator_after start member log)

    abbrev pub RowsHave : (ℕ → List HostStep) → List HostStep → Type 0
    RowsHave logs log =
        WaitsRouted (layout_in start (view_after start (ldm_of start member) log))
        (WasAskedIn start logs (view_after start (ldm_of start member) log))
        (WasDrivenIn start logs (view_after start (ldm_of start member) log)) (IsGivenUp start logs)
        (rows_after start member log)

    -- of a coordinator with another host nothing is asked for, nor driven
    less_elsewhere : e.host ≢ tc_of start member → (view : View) (tx : TxId) → coordinator_member tx ≡ member
        → (WasAskedIn start new view tx → WasAskedIn start old view tx)
        × (WasDrivenIn start new view tx → WasDrivenIn start old view tx)
    less_elsewhere other view tx own = (
      λ was. record {
        full = was.full;
        asked =
            subst (λ log. was_sent_in start (coordinator_member tx) (is_request tx) view.number log ≡ true) same
            was.asked;
      },
      λ was full.
          subst (λ log. was_sent_in start (coordinator_member tx) (is_commit tx) view.number log ≡ true) same
          (was full),
    )
      where
        same : new (tc_of start (coordinator_member tx)) ≡ old (tc_of start (coordinator_member tx))
        same =
            log_of-other (machine start) e es (tc_of start (coordinator_member tx))
            (subst (λ (m : Member). e.host ≢ tc_of start m) (sym own) other)

    pub coordinator_elsewhere : NobodyStarts start → (there : IsIn member (made start)) → e.host ≢ tc_of start member
        → CoordinatorStands start member old → CoordinatorStands start member new
        → CoordinatorHas old (old (tc_of start member)) → CoordinatorHas new (new (tc_of start member))
    coordinator_elsewhere nobody there other before behind had =
        let h = tc_of start member in
        let view = view_after start h (old h) in
        let s = coordinator_after start member (old h) in
        let same = log_of-other (machine start) e es h other in
        let given = all_given start member there new behind nobody in
        subst (CoordinatorHas new) (sym same)
        (has_less (layout_in start view) (WasAskedIn start old view) (WasDrivenIn start old view) (IsGivenUp start old)
        (WasAskedIn start new view) (WasDrivenIn start new view) (IsGivenUp start new) s s.tc.live
        (each_map (λ (e : TxId × Transaction). coordinator_member e.0 ≡ member)
        (λ (e : TxId × Transaction). (WasAskedIn start new view e.0 → WasAskedIn start old view e.0)
        × (WasDrivenIn start new view e.0 → WasDrivenIn start old view e.0)) s.tc.live
        (λ e own. less_elsewhere other view e.0 own) before.of.own)
        (subst (λ log. Each (λ (e : TxId × Transaction). IsGiven (IsGivenUp start new) e.0 e.1.phase)
        (coordinator_after start member log).tc.live) same given)
        had)

    pub rows_elsewhere : e.host ≢ ldm_of start member → RowsHave old (old (ldm_of start member))
        → RowsHave new (new (ldm_of start member))
    rows_elsewhere other had =
        let h = ldm_of start member in
        let view = view_after start h (old h) in
        subst (RowsHave new) (sym (log_of-other (machine start) e es h other))
        (waits_more (layout_in start view) (WasAskedIn start old view) (WasDrivenIn start old view)
        (IsGivenUp start old)
        (WasAskedIn start new view) (WasDrivenIn start new view) (IsGivenUp start new) (grows start e es view)
        (rows_after start member (old h)) had)
