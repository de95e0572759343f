-- At an event of the host of a coordinator it has its routes, in the view in which the host stands then, before it
-- takes the signal.
use Rattle.std.proofs.Common.{◌≡◌, ◌<◌, ◌≤◌, ℕ, Bool, true, List, ◌∷◌, sym, ap, ◌∙◌, subst, arith}
use Rattle.run_theory.specs.Lists.{Each, IsIn, IsPast}
use Rattle.run_theory.proofs.Pasts.{each_map}
use Rattle.sig_core.specs.declared.member.Member.{Member}
use Rattle.sig_core.specs.declared.member.TxId.{TxId}
use Rattle.sig_core.specs.declared.outs.Outgoing.{Outgoing}
use Rattle.sig_core.specs.declared.signal.Body.{Body}
use Rattle.sig_core.specs.declared.view.View.{View}
use Rattle.frag_map.specs.Layout.{first_layout}
use Rattle.tc_block.specs.declared.transaction.Transaction.{Transaction}
use Rattle.tc_views.specs.Coordinator.{fresh_coordinator}
use Rattle.tc_views.specs.State.{CoordinatorState}
use Rattle.node_views.specs.declared.parts.Parts.TheVariants as part
use Rattle.node_views.specs.declared.tc_part.TcPart.{TcPart}
use Rattle.node_views.specs.Parts.{tc_entered}
use Rattle.world_core.specs.Start.{Start, made}
use Rattle.world_core.specs.Steps.{HostStep}
use Rattle.world_views.specs.Machine.{after}
use Rattle.view_laws.specs.Runs.{view_after}
use Rattle.view_laws.proofs.runs.ViewsShrink.{views_shrink}
use Rattle.moment_laws.specs.Moments.{IsMoment, logs_of}
use Rattle.moment_laws.specs.PartSteps.{PartEnters, installs, remains, tc_kind}
use Rattle.moment_laws.specs.Places.{tc_of}
use Rattle.moment_laws.proofs.MomentTurns.{own_log}
use Rattle.moment_laws.proofs.MomentViews.{moment_less}
use Rattle.outcome_laws.specs.Counts.{coordinator_member}
use Rattle.request_laws.specs.Blocks.{coordinator_after, coordinator_in}
use Rattle.request_laws.specs.Drives.{is_commit, is_request, was_sent_in}
use Rattle.request_laws.specs.Phases.{CoordinatorStands}
use Rattle.request_laws.specs.Routed.{IsGivenUp, WasAskedIn, WasDrivenIn, layout_in}
use Rattle.request_laws.specs.Routes.{CoordinatorHasRoutes}
use Rattle.request_laws.specs.Strays.{HaleKeepTo}
use Rattle.request_laws.proofs.routes.Installed.{IsFresh, installed_has}
use Rattle.request_laws.proofs.routes.Idle.{all_given}
use Rattle.request_laws.proofs.routes.Turns.{IsGiven}
use Rattle.request_laws.proofs.routes.PartsOfTheFirst.{member_full, nobody_later, sent_low, was_in}
use Rattle.request_laws.proofs.strays.InstallationsSpareNone.{installations_spare}

module _ (start : Start) (all : ℕ → List HostStep) (e : HostStep) (es : List HostStep)
    (moment : IsMoment start all (e ∷ es)) (member : Member) (there : IsIn member (made start))
    (at : e.host ≡ tc_of start member) (stands : CoordinatorStands start member (logs_of start es))
  where
    abbrev old : ℕ → List HostStep
    old = logs_of start es

    abbrev h : ℕ
    h = tc_of start member

    abbrev log : List HostStep
    log = old (tc_of start member)

    -- the view in which the host stood, and that in which it stands
    abbrev stood : View
    stood = view_after start h log

    abbrev view : View
    view = view_after start h (e ∷ log)

    -- what it has, in a view, by the logs before the event
    abbrev HasIn : View → CoordinatorState → Type 0
    HasIn v s =
        CoordinatorHasRoutes (layout_in start v) (WasAskedIn start old v) (WasDrivenIn start old v)
        (IsGivenUp start old) s

    before_past : IsPast log (all h)
    before_past = (moment_less start all e es moment).inside h

    pub behind_past : IsPast (e ∷ log) (all h)
    behind_past =
        subst (λ k. IsPast (e ∷ logs_of start es k) (all k)) at
        (subst (λ w. IsPast w (all e.host)) (own_log start all e es moment) (moment.inside e.host))

    pub own_full : IsIn member view.full
    own_full = member_full start all moment.cluster member there (e ∷ log) behind_past

    -- in a view that the host comes to nothing was asked of its own transactions, nor were they driven
    own_fresh : stood.number < view.number → (tx : TxId) → coordinator_member tx ≡ member
        → IsFresh (WasAskedIn start old view) (WasDrivenIn start old view) tx
    own_fresh rises tx own = record {
      unasked = λ was. too_high (is_request tx) was.asked;
      undriven = λ was.
          too_high (is_commit tx) (was (subst (λ (m : Member). IsIn m view.full) (sym own) own_full));
    }
      where
        too_high : (p : Body → Bool)
            → was_sent_in start (coordinator_member tx) p view.number (old (tc_of start (coordinator_member tx)))
            ≡ true → ⊥
        too_high p was =
            let low : view.number ≤ stood.number =
            subst (λ (m : Member). view.number ≤ (view_after start (tc_of start m) (old (tc_of start m))).number) own
            (sent_low start moment.cluster.nobody (coordinator_member tx) p view.number
            (old (tc_of start (coordinator_member tx))) was) in
            omega (arith, low, rises)

    hale_keep : stood.number < view.number → HaleKeepTo view (coordinator_after start member log)
    hale_keep =
        subst
        (λ k. (view_after start k (logs_of start es k)).number < (view_after start k (e ∷ logs_of start es k)).number
        → HaleKeepTo (view_after start k (e ∷ logs_of start es k)) (coordinator_after start member log))
        at (installations_spare start all e es moment member there at)

    module _ (p : TcPart) (runs : (after start h log).parts ≡ part.Tc p)
        (had : HasIn stood (coordinator_after start member log)) where
      same : coordinator_after start member log ≡ p.coordinator
      same = ap (coordinator_in (fresh_coordinator member.node member.start (first_layout start.shape))) runs

      has_before : HasIn stood p.coordinator
      has_before = subst (HasIn stood) same had

      has_installed : stood.number < view.number → HasIn view (tc_entered p view).state.coordinator
      has_installed rises =
          installed_has (layout_in start stood) view
          (nobody_later start all moment.cluster stood (was_in start all moment.cluster member there log before_past))
          (views_shrink start all moment.cluster stood view
          (was_in start all moment.cluster member there log before_past)
          (was_in start all moment.cluster member there (e ∷ log) behind_past) rises)
          (WasAskedIn start old stood) (WasDrivenIn start old stood) (IsGivenUp start old) (WasAskedIn start old view)
          (WasDrivenIn start old view) (IsGivenUp start old) p.coordinator has_before
          (subst (HaleKeepTo view) same (hale_keep rises))
          (subst
          (λ (s : CoordinatorState). Each (λ (e : TxId × Transaction).
          IsFresh (WasAskedIn start old view) (WasDrivenIn start old view) e.0) s.tc.live) same
          (each_map (λ (e : TxId × Transaction). coordinator_member e.0 ≡ member)
          (λ (e : TxId × Transaction). IsFresh (WasAskedIn start old view) (WasDrivenIn start old view) e.0)
          (coordinator_after start member log).tc.live (λ e own. own_fresh rises e.0 own) stands.of.own))
          (subst
          (λ (s : CoordinatorState). Each (λ (e : TxId × Transaction). IsGiven (IsGivenUp start old) e.0 e.1.phase)
          s.tc.live) same (all_given start member there old stands moment.cluster.nobody))

      -- whether it installs the view of the signal or not
      pub enters_has : (between : TcPart) (front : List Outgoing)
          → PartEnters tc_kind p stood e.step.taken between view front → HasIn view between.coordinator
      enters_has between front (remains same_part same_view none) =
          subst (λ (v : View). HasIn v between.coordinator) (sym same_view)
          (subst (λ (q : TcPart). HasIn stood q.coordinator) (sym same_part) has_before)
      enters_has between front (installs above same_part same_view sends) =
          let number = ap (λ (v : View). v.number) same_view in
          subst (λ (q : TcPart). HasIn view q.coordinator)
          (sym (same_part ∙ ap (λ (v : View). (tc_entered p v).state) (sym same_view)))
          (has_installed (omega (arith, number, above)))
