-- Behind an event at which a coordinator takes a signal that is routed it has its routes, whether its host sends what
-- it sends or, as it stops, nothing.
use Rattle.std.proofs.Common.{◌≡◌, ◌⊎◌, ℕ, true, List, ◌∷◌, inl, inr, sym, ap, ◌∙◌, subst}
use Rattle.run_theory.specs.Lists.{Each, IsIn}
use Rattle.run_theory.proofs.Pasts.{each_map}
use Rattle.run_theory.proofs.Runs.{log_of-own}
use Rattle.sig_core.specs.declared.member.Member.{Member}
use Rattle.sig_core.specs.declared.member.TxId.{TxId}
use Rattle.sig_core.specs.declared.outs.Outgoing.{Outgoing}
use Rattle.sig_core.specs.declared.signal.Signal.{Signal}
use Rattle.sig_core.specs.declared.view.View.{View}
use Rattle.frag_map.specs.Layout.{Layout}
use Rattle.tc_block.specs.declared.transaction.Transaction.{Transaction}
use Rattle.tc_views.specs.Coordinator.{coordinator_row}
use Rattle.tc_views.specs.Laws.{AreOnce}
use Rattle.tc_views.specs.State.{CoordinatorState}
use Rattle.world_core.specs.Start.{Start, made}
use Rattle.world_core.specs.Steps.{HostStep}
use Rattle.world_views.specs.Machine.{machine, step_after}
use Rattle.view_laws.specs.Runs.{view_after}
use Rattle.moment_laws.specs.Moments.{IsMoment, logs_of}
use Rattle.moment_laws.specs.Places.{tc_of}
use Rattle.outcome_laws.specs.Counts.{coordinator_member}
use Rattle.request_laws.specs.Blocks.{coordinator_after}
use Rattle.request_laws.specs.Drives.{is_commit, is_request}
use Rattle.request_laws.specs.Phases.{CoordinatorStands}
use Rattle.request_laws.specs.Routed.{IsGivenUp, WasAskedIn, WasDrivenIn, layout_in}
use Rattle.request_laws.specs.Routes.{CoordinatorHasRoutes}
use Rattle.request_laws.specs.Ways.{is_sent}
use Rattle.request_laws.proofs.routes.Driven.{grows, renews}
use Rattle.request_laws.proofs.routes.OtherHosts.{CoordinatorHas}
use Rattle.request_laws.proofs.routes.Entering.{behind_past, own_full}
use Rattle.request_laws.proofs.routes.AskedOrDriven.{OrAsked, OrDriven, coordinator_goes, has_less}
use Rattle.request_laws.proofs.routes.Idle.{all_given}
use Rattle.request_laws.proofs.routes.Coordinators.{AreAnswered, CoordinatorRoutes, TakesRouted}
use Rattle.request_laws.proofs.routes.Turns.{IsGiven, Renews}
use Rattle.request_laws.proofs.routes.PartsOfTheFirst.{chains_in, was_in}

module _ (start : Start) (all : ℕ → List HostStep) (e : HostStep) (es : List HostStep)
    (moment : IsMoment start all (e ∷ es)) (member : Member) (there : IsIn member (made start))
    (at : e.host ≡ tc_of start member) (before : CoordinatorStands start member (logs_of start es))
    (behind : CoordinatorStands start member (logs_of start (e ∷ es)))
  where
    abbrev old : ℕ → List HostStep
    old = logs_of start es

    abbrev new : ℕ → List HostStep
    new = logs_of start (e ∷ es)

    abbrev log : List HostStep
    log = old (tc_of start member)

    abbrev view : View
    view = view_after start (tc_of start member) (e ∷ log)

    abbrev layout : Layout
    layout = layout_in start view

    abbrev x : Signal
    x = e.step.taken

    -- what the host sends, and what the coordinator does
    abbrev sends : List Outgoing
    sends = (step_after start (tc_of start member) log e).effects.sends

    own_log : new (tc_of start member) ≡ e ∷ log
    own_log = log_of-own (machine start) e es (tc_of start member) at

    pub own_renews : (tx : TxId) → coordinator_member tx ≡ member
        → Renews (WasAskedIn start old view) (WasDrivenIn start old view) (WasAskedIn start new view)
        (WasDrivenIn start new view) tx sends
    own_renews tx own =
        subst
        (λ k. Renews (WasAskedIn start old view) (WasDrivenIn start old view) (WasAskedIn start new view)
        (WasDrivenIn start new view) tx (step_after start k (old k) e).effects.sends)
        at (renews start e es member at view (own_full start all e es moment member there at before) tx own)

    module _ (s : CoordinatorState) (now : coordinator_after start member (e ∷ log) ≡ (coordinator_row s x).state)
        (sent : (tx : TxId)
        → (is_sent (is_request tx) sends ≡ true → is_sent (is_request tx) (coordinator_row s x).effects.sends ≡ true)
        × (is_sent (is_commit tx) sends ≡ true → is_sent (is_commit tx) (coordinator_row s x).effects.sends ≡ true))
        (laid : s.tc.layout ≡ layout) (once : AreOnce s.tc.live) (answered : AreAnswered s)
        (had : CoordinatorHasRoutes layout (WasAskedIn start old view) (WasDrivenIn start old view)
        (IsGivenUp start old) s)
        (is : TakesRouted layout (WasAskedIn start old view) (WasDrivenIn start old view) (IsGivenUp start old) s x)
      where
        abbrev row_sends : List Outgoing
        row_sends = (coordinator_row s x).effects.sends

        abbrev Asked : TxId → Type 0
        Asked tx = OrAsked (WasAskedIn start old view) row_sends tx

        abbrev Driven : TxId → Type 0
        Driven tx = OrDriven (WasDrivenIn start old view) row_sends tx

        given : Each (λ (e : TxId × Transaction). IsGiven (IsGivenUp start new) e.0 e.1.phase)
            (coordinator_row s x).state.tc.live
        given =
            subst
            (λ (s : CoordinatorState). Each (λ (e : TxId × Transaction).
            IsGiven (IsGivenUp start new) e.0 e.1.phase) s.tc.live)
            (ap (coordinator_after start member) own_log ∙ now)
            (all_given start member there new behind moment.cluster.nobody)

        own : Each (λ (e : TxId × Transaction). coordinator_member e.0 ≡ member) (coordinator_row s x).state.tc.live
        own =
            subst
            (λ (s : CoordinatorState).
            Each (λ (e : TxId × Transaction). coordinator_member e.0 ≡ member) s.tc.live)
            (ap (coordinator_after start member) own_log ∙ now) behind.of.own

        pub goes : CoordinatorRoutes layout Asked Driven (IsGivenUp start new) (coordinator_row s x)
        goes =
            coordinator_goes (WasAskedIn start old view) (WasDrivenIn start old view) (IsGivenUp start old)
            (IsGivenUp start new) (grows start e es view).given s x layout laid
            (chains_in start all moment.cluster view
            (was_in start all moment.cluster member there (e ∷ log)
            (behind_past start all e es moment member there at before)))
            once had answered is given

        asked : (tx : TxId) → WasAskedIn start old view tx ⊎ (is_sent (is_request tx) sends ≡ true) → Asked tx
        asked tx (inl was) = inl was
        asked tx (inr told) = inr ((sent tx).0 told)

        driven : (tx : TxId) → WasDrivenIn start old view tx ⊎ (is_sent (is_commit tx) sends ≡ true) → Driven tx
        driven tx (inl was) = inl was
        driven tx (inr told) = inr ((sent tx).1 told)

        has_now : CoordinatorHasRoutes layout (WasAskedIn start new view) (WasDrivenIn start new view)
            (IsGivenUp start new) (coordinator_row s x).state
        has_now =
            has_less layout Asked Driven (IsGivenUp start new) (WasAskedIn start new view) (WasDrivenIn start new view)
            (IsGivenUp start new) (coordinator_row s x).state (coordinator_row s x).state.tc.live
            (each_map (λ (e : TxId × Transaction). coordinator_member e.0 ≡ member)
            (λ (e : TxId × Transaction). (WasAskedIn start new view e.0 → Asked e.0)
            × (WasDrivenIn start new view e.0 → Driven e.0)) (coordinator_row s x).state.tc.live
            (λ e own. (
              λ was. asked e.0 ((own_renews e.0 own).asked was),
              λ was. driven e.0 ((own_renews e.0 own).driven was),
            )) own)
            given goes.has

        pub takes_has : CoordinatorHas start e es member new (new (tc_of start member))
        takes_has =
            subst (CoordinatorHas start e es member new) (sym own_log)
            (subst
            (CoordinatorHasRoutes layout (WasAskedIn start new view) (WasDrivenIn start new view) (IsGivenUp start new))
            (sym now) has_now)
