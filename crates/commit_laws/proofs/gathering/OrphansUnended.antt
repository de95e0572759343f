-- Coordinators end their own transactions alone, and rows only whom they are told to: so nobody ends an orphan of the
-- current view until a takeover is at work.
use Rattle.std.proofs.Common.{◌≡◌, ◌⊎◌, ◌∙◌, ◌<◌, ℕ, false, List, [], ◌∷◌, inl, inr, refl, sym, ap, subst, arith}
use Rattle.std.proofs.lemmas.Bool.{true≢false}
use Rattle.run_theory.specs.Links.{sent}
use Rattle.run_theory.specs.Lists.{Each, IsIn}
use Rattle.run_theory.proofs.Pasts.{each_append, each_from, each_in, each_map}
use Rattle.run_theory.proofs.Runs.{log_of-own}
use Rattle.outcome_laws.proofs.coordinators.BeginsAndAsks.{coordinator_of_installed}
use Rattle.commit_laws.proofs.hosts.PartEach.{part_each, part_each_by, between_so}
use Rattle.sig_core.specs.declared.member.Member.{Member}
use Rattle.sig_core.specs.declared.member.TxId.{TxId}
use Rattle.sig_core.specs.declared.outs.Outgoing.{Outgoing}
use Rattle.sig_core.specs.declared.place.BlockId.{BlockId}
use Rattle.sig_core.specs.declared.place.BlockId.TheVariants as block
use Rattle.sig_core.specs.declared.place.Place.{Place}
use Rattle.sig_core.specs.declared.signal.Body.{Body}
use Rattle.sig_core.specs.declared.signal.Body.TheVariants.{Chain}
use Rattle.sig_core.specs.declared.signal.chain.ChainSignal.TheVariants.{Abort, Aborted, Commit, Committed, Complete}
use Rattle.sig_core.specs.declared.signal.chain.ChainSignal.TheVariants.{Completed}
use Rattle.sig_core.specs.declared.signal.Signal.{Signal}
use Rattle.sig_core.specs.declared.view.View.{View}
use Rattle.frag_map.specs.Layout.{first_layout}
use Rattle.dih_node.specs.Orders as dih
use Rattle.takeover_block.specs.Rule.{is_at_work}
use Rattle.takeover_block.specs.State.{TakeoverState, resting}
use Rattle.tc_views.specs.Views.{install_row}
use Rattle.lqh_saver.specs.State.{saving}
use Rattle.node_views.specs.declared.host_body.HostBody as hosts
use Rattle.node_views.specs.declared.tc_part.TcPart.{TcPart}
use Rattle.node_views.specs.Parts.{ldm_row, tc_row}
use Rattle.world_core.specs.Start.{NobodyStarts, Start, made}
use Rattle.world_core.specs.Steps.{Addressed, HostStep}
use Rattle.world_views.specs.Machine.{machine, step_after}
use Rattle.view_laws.specs.Order.{sound_machine}
use Rattle.view_laws.specs.Runs.{view_after}
use Rattle.moment_laws.specs.Moments.{IsMoment, current, logs_of}
use Rattle.moment_laws.specs.PartSteps.{PartEnters, installs, ldm_kind, remains, tc_kind}
use Rattle.moment_laws.specs.Places.{tc_of}
use Rattle.moment_laws.proofs.MomentHosts.{tc_low, tc_started}
use Rattle.moment_laws.proofs.MomentSignals.{EachSent, sent_below, sent_next}
use Rattle.moment_laws.proofs.MomentTurns.{Turn, current_rises, host_low, keeps, raises, turn}
use Rattle.moment_laws.proofs.MomentViews.{current_above, current_number, moment_less, stands_in_current}
use Rattle.moment_laws.proofs.PartKinds.{ldm_is}
use Rattle.moment_laws.proofs.PartTaken.{IsTakenNow, handled_now}
use Rattle.outcome_laws.specs.Counts.{IsCoordinatorOf, coordinator_member}
use Rattle.request_laws.specs.Blocks.{takeover_after, takeover_in}
use Rattle.request_laws.proofs.phases.Stands.{coordinators_stand}
use Rattle.request_laws.proofs.routes.BesideRows.{is_of_rows}
use Rattle.request_laws.proofs.routes.Entering.{own_full}
use Rattle.request_laws.proofs.routes.Headers.{chain_fenced, sent_so, told_of}
use Rattle.request_laws.proofs.routes.Hosts.{PartHost, coordinates, is_beside, keeps_rows, part_host}
use Rattle.request_laws.proofs.orphans.ReportsOfOrphans.{coordinated}
use Rattle.request_laws.proofs.routes.PartSteps.{LdmStep, TcStep, coordinator_is, ldm_step, own_tc, takeover_is}
use Rattle.request_laws.specs.Orphans.{IsOrphan}
use Rattle.commit_laws.specs.Ruling.{AllRest, EndsOf, NoneRuled, OrphansGoOn}
use Rattle.commit_laws.specs.Takeovers.{takeover_at}
use Rattle.commit_laws.proofs.takeover.Rests.{rests_quiet}
use Rattle.commit_laws.proofs.fates.SpokenAside.{beside_speaks, epochs_install_speak, epochs_speak}
use Rattle.commit_laws.proofs.fates.SpokenCoordinator.{coordinator_installs_speak, coordinator_speaks}
use Rattle.commit_laws.proofs.fates.SpokenEvents.{fenced_keeps}
use Rattle.commit_laws.proofs.fates.SpokenRows.{Hears, saving_speak}
use Rattle.commit_laws.proofs.fates.SpokenWords.{AreSpoken, IsSpoken, Speaks}

-- it has a coordinator in the view
abbrev IsLed : View → TxId → Type 0
IsLed view tx = IsOrphan view tx → ⊥

module _ (start : Start) where
  abbrev Led : View → Body → Type 0
  Led view body = Speaks (IsLed view) (IsLed view) body

  -- takeovers rest at the start
  first_rests : NobodyStarts start → AllRest start (λ h. [])
  first_rests nobody member there same =
      ap (λ (s : hosts.HostBody). is_at_work (takeover_in (resting member.node (first_layout start.shape))
      s.parts).stage)
      (tc_started start nobody member there)

  now_rest : NobodyStarts start → (es : List HostStep) → NoneRuled start es → AllRest start (logs_of start es)
  now_rest nobody [] none = first_rests nobody
  now_rest nobody (e ∷ es) none = none.0

  module _ (all : ℕ → List HostStep) (e : HostStep) (es : List HostStep) (moment : IsMoment start all (e ∷ es))
      (none : NoneRuled start (e ∷ es))
      (stood : NoneRuled start es → EachSent start (λ y. y.signal.view.number ≡ current_number start (logs_of start es)
      → Led (current start (logs_of start es)) y.signal.body) (logs_of start es))
    where
      abbrev old : ℕ → List HostStep
      old = logs_of start es

      abbrev new : ℕ → List HostStep
      new = logs_of start (e ∷ es)

      abbrev x : Signal
      x = e.step.taken

      abbrev now : View
      now = current start (logs_of start (e ∷ es))

      abbrev N : TxId → Type 0
      N = IsLed (current start (logs_of start (e ∷ es)))

      abbrev view : View
      view = view_after start e.host (e ∷ old e.host)

      abbrev sends : List Outgoing
      sends = (step_after start e.host (old e.host) e).effects.sends

      less : IsMoment start all es
      less = moment_less start all e es moment

      -- where the current view is the same it was so before
      before : current start new ≡ current start old → NoneRuled start es
      before same = by none.1
        where
          by : (current_number start old < current_number start new) ⊎ NoneRuled start es → NoneRuled start es
          by (inl above) = let is = ap (λ (v : View). v.number) same in absurd (omega (arith, above, is))
          by (inr was) = was

      -- what rows are told of
      heard : (b : BlockId) → IsTakenNow start all e es moment b → Hears N N x.body
      heard b taken = by x.body refl
        where
          by : (body : Body) → x.body ≡ body → Hears N N body
          by (Chain signal) is =
              subst (λ (v : View). Led v (Chain signal)) (sym same)
              (subst (Led (current start old)) is
              (told_of start all e es moment
              (λ y. y.signal.view.number ≡ current_number start old → Led (current start old) y.signal.body)
              (stood (before same)) taken.sound (ap is_of_rows is)
              (taken.fresh (chain_fenced x signal is) ∙ ap (λ (v : View). v.number) same)))
            where
              same : current start new ≡ current start old
              same = fenced_keeps start all e es moment b taken (ap is_of_rows is) (chain_fenced x signal is)
          by body is = tt

      ldm_speaks : LdmStep start e.host (old e.host) e → AreSpoken N N sends
      unfolding ldm_row
      ldm_speaks step =
          part_each ldm_kind (IsSpoken N N) start.shape step.own (view_after start e.host (old e.host)) x _ view sends
          step.does (λ above. tt)
          (λ passed.
          row x.to.block
          (handled_now start all e es moment ldm_kind ldm_is step.own step.runs step.does.between step.does.front
          step.does.enters passed x.to.block refl))
        where
          row : (b : BlockId) → IsTakenNow start all e es moment x.to.block
              → AreSpoken N N (ldm_row step.does.between b x).effects.sends
          row block.Lqh taken =
              saving_speak N N (saving step.does.between.replica step.does.between.saver) x (heard x.to.block taken)
          row _ taken = tt

      -- a coordinator's host that stands in the current view
      module _ (member : Member) (there : IsIn member (made start)) (at : e.host ≡ tc_of start member) where
        abbrev log : List HostStep
        log = logs_of start es (tc_of start member)

        abbrev own_stood : View
        own_stood = view_after start (tc_of start member) log

        abbrev own_view : View
        own_view = view_after start (tc_of start member) (e ∷ log)

        abbrev own_sends : List Outgoing
        own_sends = (step_after start (tc_of start member) log e).effects.sends

        abbrev step : TcStep start (tc_of start member) log e
        step = own_tc start moment.cluster.nobody member there log e

        abbrev p : TcPart
        p = step.own

        abbrev between : TcPart
        between = step.does.between

        own_log : new (tc_of start member) ≡ e ∷ log
        own_log = log_of-own (machine start) e es (tc_of start member) at

        fits : IsCoordinatorOf member p.coordinator
        fits =
            subst (IsCoordinatorOf member) (coordinator_is start member (tc_of start member) log refl p step.runs)
            (coordinators_stand start all es less member there).of

        between_fits : IsCoordinatorOf member between.coordinator
        between_fits =
            between_so tc_kind (λ (q : TcPart). IsCoordinatorOf member q.coordinator) p own_stood x between own_view
            step.does.front step.does.enters (λ still. fits)
            (λ above seen. coordinator_of_installed member p.coordinator x.view fits)

        module _ (stands : own_view.number ≡ current_number start new) where
          view_is : own_view ≡ current start new
          view_is =
              sym (ap (view_after start (tc_of start member)) own_log)
              ∙ stands_in_current start all (e ∷ es) moment (tc_of start member)
              (tc_low start moment.cluster.nobody member there)
              (ap (λ l. (view_after start (tc_of start member) l).number) own_log ∙ stands)

          led : (tx : TxId) → coordinator_member tx ≡ member → N tx
          led tx own orphan =
              true≢false
              (sym (coordinated (current start new).full tx
              (subst (λ m. IsIn m (current start new).full) (sym own)
              (subst (λ (v : View). IsIn member v.full) view_is
              (own_full start all e es moment member there at (coordinators_stand start all es less member there)))))
              ∙ orphan)

          was_rests : PartEnters tc_kind p own_stood x between own_view step.does.front
              → is_at_work between.takeover.stage ≡ false
          was_rests (remains same still nothing) =
              ap (λ (q : TcPart). is_at_work q.takeover.stage) same
              ∙ (ap (λ (s : TakeoverState). is_at_work s.stage)
              (sym (takeover_is start member (tc_of start member) log refl p step.runs))
              ∙ rested)
            where
              number : own_view.number ≡ own_stood.number
              number = ap (λ (v : View). v.number) still

              rested : is_at_work (takeover_at start old member).stage ≡ false
              rested =
                  let low = current_above start old moment.cluster.nobody (tc_of start member)
                  (tc_low start moment.cluster.nobody member there) in
                  let rises = current_rises start all e es moment in
                  now_rest moment.cluster.nobody es (by (turn start all e es moment)) member there
                  (omega (arith, low, rises, number, stands))
                where
                  by : Turn start all e es moment → NoneRuled start es
                  by (keeps same_view stands_too) = before same_view
                  by (raises above stands_too) =
                      absurd (omega (
                        arith,
                        current_above start old moment.cluster.nobody (tc_of start member)
                            (tc_low start moment.cluster.nobody member there),
                        above,
                        number,
                        stands,
                      ))
          was_rests (installs above same still nothing) = ap (λ (q : TcPart). is_at_work q.takeover.stage) same

          now_rests : is_at_work step.does.own.takeover.stage ≡ false
          now_rests =
              ap (λ (s : TakeoverState). is_at_work s.stage)
              (sym (takeover_is start member (tc_of start member) (e ∷ log) refl step.does.own step.does.is))
              ∙ (ap (λ l. is_at_work (takeover_after start member l).stage) (sym own_log)
              ∙ none.0 member there
              (ap (λ l. (view_after start (tc_of start member) l).number) own_log ∙ stands))

          row_speaks : step.does.own ≡ (tc_row between x.to.block x).state
              → AreSpoken N N (tc_row between x.to.block x).effects.sends
          unfolding tc_row
          row_speaks same = by x.to.block refl
            where
              by : (b : BlockId) → x.to.block ≡ b → AreSpoken N N (tc_row between b x).effects.sends
              by block.Tc to =
                  coordinator_speaks N N member between.coordinator between_fits x
                  (λ tx shown. led tx shown.own) (λ tx shown. led tx shown.own)
              by block.Takeover to =
                  rests_quiet N N between.takeover x (was_rests step.does.enters)
                  (sym (ap (λ (q : TcPart). is_at_work q.takeover.stage)
                  (same ∙ ap (λ (b : BlockId). (tc_row between b x).state) to)) ∙ now_rests)
              by block.Dih to = epochs_speak N N between.dih x
              by _ to = tt

          tc_speaks : AreSpoken N N own_sends
          tc_speaks =
              part_each_by tc_kind (IsSpoken N N) start.shape p own_stood x _ own_view own_sends step.does
              (λ above.
              each_append (IsSpoken N N) (install_row p.coordinator x.view).effects.sends
              (dih.install_row p.dih x.view.number).effects.sends
              (coordinator_installs_speak N N p.coordinator x.view) (epochs_install_speak N N p.dih x.view.number))
              (λ passed same all. row_speaks same)

      sends_speak : view.number ≡ current_number start new → AreSpoken N N sends
      sends_speak stands = by (part_host start moment.cluster.nobody e.host (host_low start all e es moment))
        where
          by : PartHost start e.host → AreSpoken N N sends
          by (coordinates me there at) =
              subst (λ k. AreSpoken N N (step_after start k (old k) e).effects.sends) (sym at)
              (tc_speaks me there at
              (subst (λ k. (view_after start k (e ∷ old k)).number ≡ current_number start new) at stands))
          by (keeps_rows me there at) =
              ldm_speaks (ldm_step start moment.cluster.nobody me there e.host at (old e.host) e)
          by (is_beside first) = beside_speaks N N start e.host first (old e.host) e

      abbrev Now : Addressed → Type 0
      Now y = y.signal.view.number ≡ current_number start (logs_of start (e ∷ es)) → Led now y.signal.body

      old_led : EachSent start Now old
      old_led i j = by (turn start all e es moment)
        where
          by : Turn start all e es moment → Each Now (sent (sound_machine start) i j (old i))
          by (keeps same stands) =
              each_map _ Now (sent (sound_machine start) i j (old i))
              (λ y led header.
              subst (λ (v : View). Led v y.signal.body) (sym same) (led (header ∙ ap (λ (v : View). v.number) same)))
              (stood (before same) i j)
          by (raises above stands) =
              each_map _ Now (sent (sound_machine start) i j (old i))
              (λ y low header. absurd (omega (arith, low, header, above))) (sent_below start all es less i j)

      led_next : EachSent start Now new
      led_next =
          sent_next start Now all e es moment old_led
          (λ goes.
          sent_so start e.host (old e.host) e
          (λ (v : View) (to : Place) (body : Body). v.number ≡ current_number start new → Led now body)
          (each_from (λ (o : Outgoing). view.number ≡ current_number start new → Led now o.body) sends
          (λ o there number. each_in (IsSpoken N N) o sends (sends_speak number) there)))

  all_led : (all : ℕ → List HostStep) (es : List HostStep) → IsMoment start all es → NoneRuled start es
      → EachSent start (λ y. y.signal.view.number ≡ current_number start (logs_of start es)
      → Led (current start (logs_of start es)) y.signal.body) (logs_of start es)
  all_led all [] moment none = λ i j. tt
  all_led all (e ∷ es) moment none =
      led_next all e es moment none (all_led all es (moment_less start all e es moment))

-- of signals of chains alone
ends_of : (D : TxId → Type 0) (body : Body) → Speaks D D body → EndsOf D body
ends_of D (Chain (Abort tx key)) led = led
ends_of D (Chain (Aborted tx key)) led = led
ends_of D (Chain (Commit tx key epoch chain at)) led = led
ends_of D (Chain (Committed tx key)) led = led
ends_of D (Chain (Complete tx key chain at)) led = led
ends_of D (Chain (Completed tx key)) led = led
ends_of D body led = tt

pub orphans_go_on : OrphansGoOn
orphans_go_on start all es moment none i j =
    each_map _ _ (sent (sound_machine start) i j (logs_of start es i))
    (λ y led header. ends_of (IsLed (current start (logs_of start es))) y.signal.body (led header))
    (all_led start all es moment none i j)
