-- What the host of a coordinator and a takeover sends at an event speaks truly, if what the takeover has stands.
use Rattle.std.proofs.Common.{◌≡◌, ◌≤◌, ◌∙◌, ℕ, Bool, true, List, ◌∷◌, refl, sym, ap, subst, arith}
use Rattle.std.specs.Prelude.{None}
use Rattle.run_theory.specs.Lists.{IsIn}
use Rattle.run_theory.proofs.Pasts.{each_append, each_map}
use Rattle.outcome_laws.proofs.coordinators.BeginsAndAsks.{coordinator_of_installed}
use Rattle.commit_laws.proofs.hosts.OwnTaken.{tc_taken}
use Rattle.commit_laws.proofs.hosts.PartEach.{part_each_by, between_so}
use Rattle.sig_core.specs.declared.member.Member.{Member}
use Rattle.sig_core.specs.declared.member.TxId.{TxId}
use Rattle.sig_core.specs.declared.outs.Outgoing.{Outgoing}
use Rattle.sig_core.specs.declared.place.BlockId.{BlockId}
use Rattle.sig_core.specs.declared.place.BlockId.TheVariants as block
use Rattle.sig_core.specs.declared.signal.Body.{Body}
use Rattle.sig_core.specs.declared.signal.Signal.{Signal}
use Rattle.sig_core.specs.declared.view.View.{View}
use Rattle.dih_node.specs.Orders as dih
use Rattle.takeover_block.specs.declared.gathered.Gathered.{Gathered}
use Rattle.takeover_block.specs.declared.stage.Stage.TheVariants.{Gathering, Resting}
use Rattle.takeover_block.specs.State.{TakeoverState}
use Rattle.tc_views.specs.Coordinator.{coordinator_row}
use Rattle.tc_views.specs.State.{CoordinatorState}
use Rattle.tc_views.specs.Views.{install_row}
use Rattle.node_views.specs.declared.parts.Parts.TheVariants as part
use Rattle.node_views.specs.declared.tc_part.TcPart.{TcPart}
use Rattle.node_views.specs.Parts.{tc_row}
use Rattle.world_core.specs.Start.{Start, made}
use Rattle.world_core.specs.Steps.{HostStep}
use Rattle.world_views.specs.Machine.{step_after}
use Rattle.view_laws.specs.Runs.{view_after}
use Rattle.moment_laws.specs.Moments.{IsMoment, current, logs_of}
use Rattle.moment_laws.specs.Parts.{IsPassed}
use Rattle.moment_laws.specs.PartSteps.{PartEnters, tc_kind}
use Rattle.moment_laws.specs.Places.{tc_of}
use Rattle.moment_laws.proofs.MomentHosts.{tc_low}
use Rattle.moment_laws.proofs.MomentTurns.{current_rises, old_current}
use Rattle.moment_laws.proofs.MomentViews.{current_above, current_number, moment_less, number_in}
use Rattle.moment_laws.proofs.PartTaken.{IsTakenNow}
use Rattle.outcome_laws.specs.Counts.{IsCoordinatorOf}
use Rattle.request_laws.specs.Blocks.{coordinator_after, takeover_after}
use Rattle.request_laws.specs.Ways.{entry_of, is_sent}
use Rattle.request_laws.proofs.phases.Stands.{coordinators_stand}
use Rattle.request_laws.proofs.phases.OneWay.{sent_behind}
use Rattle.request_laws.proofs.routes.Entering.{own_full}
use Rattle.request_laws.proofs.routes.PartSteps.{TcStep, coordinator_is, own_tc, takeover_is}
use Rattle.commit_laws.specs.Fates.{aborts, commits, fate}
use Rattle.commit_laws.specs.Forth.{ForthIsKnown}
use Rattle.commit_laws.proofs.fates.SpokenAside.{epochs_install_speak, epochs_speak}
use Rattle.commit_laws.proofs.fates.SpokenCoordinator.{coordinator_installs_speak, coordinator_speaks}
use Rattle.commit_laws.proofs.fates.SpokenOwn.{shown_back, shown_forth}
use Rattle.commit_laws.proofs.fates.SpokenRuling.{takeover_speaks}
use Rattle.commit_laws.proofs.fates.SpokenTakeover.{ClosesBy, TakeoverIs, is_installed}
use Rattle.commit_laws.proofs.fates.SpokenWords.{AreSpoken, IsSpoken, speaks_so}
use Rattle.commit_laws.proofs.takeover.Words.{Aborts, Commits}

-- what stands of a takeover where its host takes a signal in the view in which it stood
pub record StandsStill (start : Start) (e : HostStep) (es : List HostStep) (member : Member) : Type 0 where
  pub current_is : current start (logs_of start (e ∷ es)) ≡ current start (logs_of start es)
  pub number_is : number_in start (logs_of start es) (tc_of start member) ≡ current_number start (logs_of start es)

-- so it is where the host stands in the current view behind the event, and stood in that of this number before
pub stood_still : (start : Start) (all : ℕ → List HostStep) (e : HostStep) (es : List HostStep)
    → IsMoment start all (e ∷ es) → (member : Member) → IsIn member (made start) → (number : ℕ)
    → number ≡ current_number start (logs_of start (e ∷ es))
    → number ≤ number_in start (logs_of start es) (tc_of start member) → StandsStill start e es member
stood_still start all e es moment member there number is low =
    let above = current_above start (logs_of start es) moment.cluster.nobody (tc_of start member)
    (tc_low start moment.cluster.nobody member there) in
    let rises = current_rises start all e es moment in
    record {
      current_is = old_current start all e es moment (omega (arith, is, low, above, rises));
      number_is = omega (arith, is, low, above, rises);
    }

-- of a takeover that stood still: it has what it should, and all that it has gathered is so if all members end by the
-- event
pub record TakeoverGoes (start : Start) (all : ℕ → List HostStep) (e : HostStep) (es : List HostStep)
    (moment : IsMoment start all (e ∷ es)) (member : Member) (W : Gathered → Type 0) : Type 0 where
  pub rules : (g : Gathered) → W g → g.epoch ≡ None → Aborts start (logs_of start (e ∷ es)) g.tx
  pub stands : StandsStill start e es member
      → TakeoverIs (Aborts start (logs_of start (e ∷ es))) (Commits start (logs_of start (e ∷ es))) W
      (takeover_after start member (logs_of start es (tc_of start member)))
  pub closes : StandsStill start e es member → IsTakenNow start all e es moment block.Takeover
      → ClosesBy (Aborts start (logs_of start (e ∷ es))) (Commits start (logs_of start (e ∷ es))) W
      (takeover_after start member (logs_of start es (tc_of start member))) e.step.taken.body

module _ (start : Start) (all : ℕ → List HostStep) (e : HostStep) (es : List HostStep)
    (moment : IsMoment start all (e ∷ es)) (member : Member) (there : IsIn member (made start))
    (at : e.host ≡ tc_of start member) (W : Gathered → Type 0) (goes : TakeoverGoes start all e es moment member W)
  where
    abbrev old : ℕ → List HostStep
    old = logs_of start es

    abbrev new : ℕ → List HostStep
    new = logs_of start (e ∷ es)

    abbrev h : ℕ
    h = tc_of start member

    abbrev log : List HostStep
    log = logs_of start es (tc_of start member)

    abbrev stood : View
    stood = view_after start (tc_of start member) log

    abbrev view : View
    view = view_after start (tc_of start member) (e ∷ log)

    abbrev x : Signal
    x = e.step.taken

    abbrev sends : List Outgoing
    sends = (step_after start (tc_of start member) log e).effects.sends

    abbrev A : TxId → Type 0
    A tx = fate start (logs_of start (e ∷ es)) tx ≡ aborts

    abbrev C : TxId → Type 0
    C tx = fate start (logs_of start (e ∷ es)) tx ≡ commits

    -- whom a takeover commits wrote something
    abbrev D : TxId → Type 0
    D = Commits start (logs_of start (e ∷ es))

    abbrev pub step : TcStep start (tc_of start member) (logs_of start es (tc_of start member)) e
    step = own_tc start moment.cluster.nobody member there log e

    abbrev p : TcPart
    p = step.own

    abbrev between : TcPart
    between = step.does.between

    less : IsMoment start all es
    less = moment_less start all e es moment

    fits : IsCoordinatorOf member p.coordinator
    fits =
        subst (IsCoordinatorOf member) (coordinator_is start member h log refl p step.runs)
        (coordinators_stand start all es less member there).of

    module _ (entering : PartEnters tc_kind p stood x between view step.does.front) where
      -- what the coordinator is before the signal is taken
      between_fits : IsCoordinatorOf member between.coordinator
      between_fits =
          between_so tc_kind (λ (q : TcPart). IsCoordinatorOf member q.coordinator) p stood x between view
          step.does.front entering (λ still. fits)
          (λ above seen. coordinator_of_installed member p.coordinator x.view fits)

      between_same : (tx : TxId) → entry_of between.coordinator tx ≡ entry_of (coordinator_after start member log) tx
      unfolding install_row
      between_same tx =
          between_so tc_kind (λ (q : TcPart). entry_of q.coordinator tx ≡ entry_of p.coordinator tx) p stood x between
          view step.does.front entering (λ still. refl) (λ above seen. refl)
          ∙ ap (λ (c : CoordinatorState). entry_of c tx) (sym (coordinator_is start member h log refl p step.runs))

      -- the block takes the signal in the current view
      module _ (passed : IsPassed start.shape (part.Tc between) view x) where
        pub taken : (b : BlockId) → x.to.block ≡ b → IsTakenNow start all e es moment b
        taken = tc_taken start all e es moment (tc_of start member) at step passed

        view_is : view ≡ current start new
        view_is =
            subst (λ k. view_after start k (e ∷ old k) ≡ current start new) at (taken x.to.block refl).stands

        pub stands_still : view ≡ stood → StandsStill start e es member
        stands_still same =
            let low =
            current_above start old moment.cluster.nobody h (tc_low start moment.cluster.nobody member there) in
            let rises = current_rises start all e es moment in
            let here : view.number ≡ current_number start new = ap (λ (v : View). v.number) view_is in
            let still : view.number ≡ stood.number = ap (λ (v : View). v.number) same in
            record {
              current_is = old_current start all e es moment (omega (arith, low, rises, here, still));
              number_is = omega (arith, low, rises, here, still);
            }

        pub between_is : TakeoverIs A D W between.takeover
        between_is =
            between_so tc_kind (λ (q : TcPart). TakeoverIs A D W q.takeover) p stood x between view step.does.front
            entering
            (λ still.
            subst (TakeoverIs A D W) (takeover_is start member h log refl p step.runs)
            (goes.stands (stands_still still)))
            (λ above seen. is_installed A D W p.takeover x.view)

        pub between_closes : x.to.block ≡ block.Takeover → ClosesBy A D W between.takeover x.body
        between_closes to =
            between_so tc_kind (λ (q : TcPart). ClosesBy A D W q.takeover x.body) p stood x between view
            step.does.front entering
            (λ still.
            subst (λ (s : TakeoverState). ClosesBy A D W s x.body) (takeover_is start member h log refl p step.runs)
            (goes.closes (stands_still still) (taken block.Takeover to)))
            (λ above seen n ends gathers last. absurd (idle n gathers))
          where
            idle : (n : ℕ) → Resting ≡ Gathering n → ⊥
            idle n is = absurd cc

        module _ (forth : ForthIsKnown start (logs_of start (e ∷ es)))
            (own_is : step.does.own ≡ (tc_row between x.to.block x).state)
            (sent : (q : Body → Bool) → is_sent q (tc_row between x.to.block x).effects.sends ≡ true
            → is_sent q sends ≡ true) where
          full : IsIn member (current start new).full
          full =
              subst (λ (v : View). IsIn member v.full) view_is
              (own_full start all e es moment member there at (coordinators_stand start all es less member there))

          -- the coordinator's own
          coordinator_true : x.to.block ≡ block.Tc → AreSpoken A C (coordinator_row between.coordinator x).effects.sends
          unfolding tc_row
          coordinator_true to =
              coordinator_speaks A C member between.coordinator between_fits x
              (λ tx shown.
              shown_back start all e es moment member there at full forth tx shown.own between.coordinator now own_sends
              (between_same tx) behind own_sent shown.shows)
              (λ tx shown.
              shown_forth start all e es moment member there at full forth tx shown.own between.coordinator now
              own_sends
              (between_same tx) behind own_sent shown.shows)
            where
              now : CoordinatorState
              now = (coordinator_row between.coordinator x).state

              own_sends : List Outgoing
              own_sends = (coordinator_row between.coordinator x).effects.sends

              behind : coordinator_after start member (e ∷ log) ≡ now
              behind =
                  coordinator_is start member h (e ∷ log) refl step.does.own step.does.is
                  ∙ ap (λ (q : TcPart). q.coordinator)
                  (own_is ∙ ap (λ (b : BlockId). (tc_row between b x).state) to)

              own_sent : (q : Body → Bool) → is_sent q own_sends ≡ true → is_sent q sends ≡ true
              own_sent q is =
                  sent q (ap (λ (b : BlockId). is_sent q (tc_row between b x).effects.sends) to ∙ is)

          row_true : AreSpoken A C (tc_row between x.to.block x).effects.sends
          unfolding tc_row
          row_true = by x.to.block refl
            where
              by : (b : BlockId) → x.to.block ≡ b → AreSpoken A C (tc_row between b x).effects.sends
              by block.Tc to = coordinator_true to
              by block.Takeover to =
                  each_map (IsSpoken A D) (IsSpoken A C) _
                  (λ o says. speaks_so A D A C (λ tx is. is) (λ tx is. is.0) o.body says)
                  (takeover_speaks A D W goes.rules between.takeover between_is x (between_closes to))
              by block.Dih to = epochs_speak A C between.dih x
              by _ to = tt

    -- all that the host sends
    pub tc_speaks : ForthIsKnown start (logs_of start (e ∷ es))
        → AreSpoken A C (step_after start (tc_of start member) (logs_of start es (tc_of start member)) e).effects.sends
    tc_speaks forth =
        part_each_by tc_kind (IsSpoken A C) start.shape p stood x _ view sends step.does
        (λ above.
        each_append (IsSpoken A C) (install_row p.coordinator x.view).effects.sends
        (dih.install_row p.dih x.view.number).effects.sends (coordinator_installs_speak A C p.coordinator x.view)
        (epochs_install_speak A C p.dih x.view.number))
        (λ passed same all.
        row_true step.does.enters passed forth same
        (λ q told.
        ap (is_sent q) all
        ∙ sent_behind q step.does.front (tc_row between x.to.block x).effects.sends told))
