-- At each moment takeovers are told only of transactions whose coordinator isn't a full member of the view, and have
-- gathered only such.
use Rattle.std.proofs.Common.{◌≡◌, ◌⊎◌, ◌++◌, ℕ, true, List, [], ◌∷◌, inl, inr, refl, sym, ap, ◌∙◌, subst, ⊎_elim}
use Rattle.run_theory.specs.Lists.{Each, IsIn}
use Rattle.run_theory.proofs.Pasts.{each_append, each_map}
use Rattle.run_theory.proofs.EventCases.{event_cases}
use Rattle.sig_core.specs.declared.member.Member.{Member}
use Rattle.sig_core.specs.declared.outs.Outgoing.{Outgoing}
use Rattle.sig_core.specs.declared.place.BlockId.{BlockId}
use Rattle.sig_core.specs.declared.place.BlockId.TheVariants as block
use Rattle.sig_core.specs.declared.signal.Body.{Body}
use Rattle.sig_core.specs.declared.signal.Body.TheVariants.{Takeover}
use Rattle.sig_core.specs.declared.signal.Signal.{Signal}
use Rattle.sig_core.specs.declared.signal.takeover.TakeoverSignal.TheVariants.{LqhTransConf}
use Rattle.sig_core.specs.declared.view.View.{View}
use Rattle.frag_map.specs.Layout.{Layout, first_layout}
use Rattle.dih_node.specs.Orders as dih
use Rattle.lqh_saver.specs.Saver.{saver_row}
use Rattle.lqh_saver.specs.State.{SavingState, saving}
use Rattle.lqh_saver.proofs.StepLemmas.{saver_sends}
use Rattle.takeover_block.specs.State.{TakeoverState, resting}
use Rattle.takeover_block.specs.Takeover.{takeover_row}
use Rattle.tc_views.specs.Coordinator.{coordinator_row}
use Rattle.tc_views.specs.State.{CoordinatorState}
use Rattle.tc_views.specs.Views as coordinator
use Rattle.node_views.specs.declared.host_body.HostBody as hosts
use Rattle.node_views.specs.declared.parts.Parts.TheVariants as part
use Rattle.node_views.specs.declared.tc_part.TcPart.{TcPart}
use Rattle.node_views.specs.Parts.{ldm_row, tc_entered, tc_row}
use Rattle.world_core.specs.Start.{NobodyStarts, Start, made}
use Rattle.world_core.specs.Steps.{Addressed, HostStep}
use Rattle.world_views.specs.Machine.{after, machine, step_after}
use Rattle.view_laws.specs.Runs.{view_after}
use Rattle.view_laws.proofs.words.Coordinator.{coordinator_installs_kinds, coordinator_kinds}
use Rattle.view_laws.proofs.words.Sent.{IsOf}
use Rattle.view_laws.proofs.words.Takeover.{is_of_takeover, takeover_kinds}
use Rattle.view_laws.proofs.words.Turns.{is_of_coordinator}
use Rattle.moment_laws.specs.Moments.{IsMoment, logs_of}
use Rattle.moment_laws.specs.PartSteps.{PartEnters, PartTakes, handles, ignores, installs, ldm_kind, remains, tc_kind}
use Rattle.moment_laws.specs.Places.{tc_of}
use Rattle.moment_laws.proofs.MomentHosts.{tc_started}
use Rattle.moment_laws.proofs.MomentSignals.{sent_next}
use Rattle.moment_laws.proofs.MomentTurns.{host_low}
use Rattle.moment_laws.proofs.MomentViews.{moment_less}
use Rattle.moment_laws.proofs.PartKinds.{tc_is}
use Rattle.moment_laws.proofs.PartTaken.{IsTakenNow, handled_now}
use Rattle.request_laws.specs.Blocks.{takeover_after, takeover_in}
use Rattle.request_laws.specs.Orphans.{AllOrphans, GatheredAre, IsOrphan, TakeoversAreOfOrphans, TellsOf}
use Rattle.request_laws.proofs.routes.BesideRows.{IsAside, aside_tells, epochs_aside, epochs_install_aside, is_of_rows}
use Rattle.request_laws.proofs.routes.Headers.{header_is, sent_so, takeover_fenced, told_of}
use Rattle.request_laws.proofs.routes.Hosts.{PartHost, beside_sends, coordinates, is_beside, keeps_rows, part_host}
use Rattle.request_laws.proofs.routes.Layouts.{ldm_enters}
use Rattle.request_laws.proofs.orphans.ReportsOfOrphans.{AreOrphans, TellsOrphans, rows_tell_orphans}
use Rattle.request_laws.proofs.routes.PartSteps.{LdmStep, TcStep, ldm_step, takeover_is, tc_step}
use Rattle.request_laws.proofs.routes.Takeovers.{gathered_stay}

-- blocks that tell a takeover nothing
module _ (view : View) where
  of_coordinator : (body : Body) → is_of_coordinator body ≡ true → TellsOf (IsOrphan view) body
  of_coordinator (Takeover signal) is = absurd cc
  of_coordinator body is = tt

  of_takeover : (body : Body) → is_of_takeover body ≡ true → TellsOf (IsOrphan view) body
  of_takeover (Takeover (LqhTransConf tx key told epoch)) is = absurd cc
  of_takeover body is = tt

  all_of_coordinator : (sends : List Outgoing) → Each (IsOf is_of_coordinator) sends → AreOrphans view sends
  all_of_coordinator sends all =
      each_map (IsOf is_of_coordinator) (TellsOrphans view) sends (λ sent is. of_coordinator sent.body is) all

  aside_orphans : (sends : List Outgoing) → Each IsAside sends → AreOrphans view sends
  aside_orphans sends all =
      each_map IsAside (TellsOrphans view) sends (λ sent is. aside_tells (IsOrphan view) sent.body is) all

  coordinator_tells : (s : CoordinatorState) (x : Signal) → AreOrphans view (coordinator_row s x).effects.sends
  coordinator_tells s x =
      ⊎_elim (λ kinds. all_of_coordinator (coordinator_row s x).effects.sends kinds)
      (λ confirms. subst (AreOrphans view) (sym confirms.1) (tt, tt)) (coordinator_kinds s x)

  takeover_tells : (s : TakeoverState) (x : Signal) → AreOrphans view (takeover_row s x).effects.sends
  takeover_tells s x =
      each_map (IsOf is_of_takeover) (TellsOrphans view) (takeover_row s x).effects.sends
      (λ sent is. of_takeover sent.body is) (takeover_kinds s x)

  tc_tells : (p : TcPart) (x : Signal) (b : BlockId) → AreOrphans view (tc_row p b x).effects.sends
  unfolding tc_row
  tc_tells p x block.Tc = coordinator_tells p.coordinator x
  tc_tells p x block.Takeover = takeover_tells p.takeover x
  tc_tells p x block.Dih = aside_orphans _ (epochs_aside p.dih x)
  tc_tells p x _ = tt

  tc_enters_tell : (p : TcPart) (now : View) → AreOrphans view (tc_entered p now).effects.sends
  tc_enters_tell p now =
      each_append (TellsOrphans view) (coordinator.install_row p.coordinator now).effects.sends
      (dih.install_row p.dih now.number).effects.sends
      (all_of_coordinator _ (coordinator_installs_kinds p.coordinator now))
      (aside_orphans _ (epochs_install_aside p.dih now.number))

module _ (start : Start) where
  abbrev IsRightlyTold : Addressed → Type 0
  IsRightlyTold y = TellsOf (IsOrphan y.signal.view) y.signal.body

  -- what a takeover has gathered, by the log of its host
  abbrev HasOrphans : Member → List HostStep → Type 0
  HasOrphans member log =
      GatheredAre (IsOrphan (view_after start (tc_of start member) log)) (takeover_after start member log)

  none_first : NobodyStarts start → (member : Member) → IsIn member (made start)
      → (takeover_after start member []).gathered ≡ []
  none_first nobody member there =
      ap (λ (s : hosts.HostBody). (takeover_in (resting member.node (first_layout start.shape)) s.parts).gathered)
      (tc_started start nobody member there)

  orphans_first : NobodyStarts start → AllOrphans start (λ h. [])
  orphans_first nobody = record {
    signals = λ i j. tt;
    gathered = λ member there. subst (Each _) (sym (none_first nobody member there)) tt;
  }

  module _ (all : ℕ → List HostStep) (e : HostStep) (es : List HostStep) (moment : IsMoment start all (e ∷ es))
      (own : AllOrphans start (logs_of start es))
    where
      abbrev old : ℕ → List HostStep
      old = logs_of start es

      abbrev new : ℕ → List HostStep
      new = logs_of start (e ∷ es)

      abbrev x : Signal
      x = e.step.taken

      abbrev stood : View
      stood = view_after start e.host (old e.host)

      abbrev view : View
      view = view_after start e.host (e ∷ old e.host)

      abbrev sends : List Outgoing
      sends = (step_after start e.host (old e.host) e).effects.sends

      -- what a takeover takes
      told_now : IsTakenNow start all e es moment block.Takeover → TellsOf (IsOrphan view) x.body
      told_now taken = by x.body refl
        where
          by : (body : Body) → x.body ≡ body → TellsOf (IsOrphan view) body
          by (Takeover (LqhTransConf tx key told epoch)) is =
              let was : TellsOf (IsOrphan x.view) x.body =
              told_of start all e es moment IsRightlyTold own.signals taken.sound
              (ap is_of_rows is) in
              subst (λ (v : View). IsOrphan v tx)
              (header_is start all e es moment
              (taken.fresh (takeover_fenced x (LqhTransConf tx key told epoch) is)
              ∙ sym (ap (λ (v : View). v.number) taken.stands)))
              (subst (TellsOf (IsOrphan x.view)) is was)
          by body is = tt

      -- behind the event, at its host
      module _ (p : TcPart) (runs : (after start e.host (old e.host)).parts ≡ part.Tc p)
          (had : GatheredAre (IsOrphan stood) p.takeover) where
        between_has : (between : TcPart) (front : List Outgoing)
            → PartEnters tc_kind p stood x between view front → GatheredAre (IsOrphan view) between.takeover
        between_has between front (remains same stands none) =
            subst (λ (v : View). GatheredAre (IsOrphan v) between.takeover) (sym stands)
            (subst (λ (q : TcPart). GatheredAre (IsOrphan stood) q.takeover) (sym same) had)
        between_has between front (installs above same stands none) =
            subst (λ (q : TcPart). GatheredAre (IsOrphan view) q.takeover) (sym same) tt

        own_has : (between : TcPart) (front : List Outgoing) → PartEnters tc_kind p stood x between view front
            → (now : TcPart) (rest : List Outgoing) → PartTakes tc_kind start.shape between view x now rest
            → GatheredAre (IsOrphan view) now.takeover
        unfolding tc_row
        own_has between front enters now rest (ignores same none) =
            subst (λ (q : TcPart). GatheredAre (IsOrphan view) q.takeover) (sym same)
            (between_has between front enters)
        own_has between front enters now rest (handles passed same sent) =
            subst (λ (q : TcPart). GatheredAre (IsOrphan view) q.takeover) (sym same) (by x.to.block refl)
          where
            has : GatheredAre (IsOrphan view) between.takeover
            has = between_has between front enters

            by : (b : BlockId) → x.to.block ≡ b → GatheredAre (IsOrphan view) (tc_row between b x).state.takeover
            by block.Takeover to =
                gathered_stay (IsOrphan view) between.takeover x has
                (told_now
                (handled_now start all e es moment tc_kind tc_is p runs between front enters passed block.Takeover to))
            by block.Tc to = has
            by block.Dih to = has
            by _ to = has

      gathered_own : (member : Member) → IsIn member (made start) → e.host ≡ tc_of start member
          → HasOrphans member (e ∷ old (tc_of start member))
      gathered_own member there at =
          let step = tc_step start moment.cluster.nobody member there e.host at (old e.host) e in
          let before : GatheredAre (IsOrphan stood) step.own.takeover =
          subst (GatheredAre (IsOrphan stood)) (takeover_is start member e.host (old e.host) at step.own step.runs)
          (subst (λ h. GatheredAre (IsOrphan (view_after start h (old h))) (takeover_after start member (old h)))
          (sym at) (own.gathered member there)) in
          let behind : GatheredAre (IsOrphan view) (takeover_after start member (e ∷ old e.host)) =
          subst (GatheredAre (IsOrphan view))
          (sym (takeover_is start member e.host (e ∷ old e.host) at step.does.own step.does.is))
          (own_has step.own step.runs before step.does.between step.does.front step.does.enters step.does.own
          step.does.rest step.does.takes) in
          subst (λ h. GatheredAre (IsOrphan (view_after start h (e ∷ old h))) (takeover_after start member (e ∷ old h)))
          at behind

      gathered_next : (member : Member) → IsIn member (made start) → HasOrphans member (new (tc_of start member))
      gathered_next member there =
          event_cases (machine start) e es (tc_of start member) (HasOrphans member) (gathered_own member there)
          (λ other. own.gathered member there)

      -- and what its host sends
      both_tell : (front rest : List Outgoing) → AreOrphans view front → AreOrphans view rest
          → (sends ≡ front ++ rest) ⊎ (sends ≡ []) → AreOrphans view sends
      both_tell front rest one other (inl is) =
          subst (AreOrphans view) (sym is) (each_append (TellsOrphans view) front rest one other)
      both_tell front rest one other (inr is) = subst (AreOrphans view) (sym is) tt

      tc_sends : TcStep start e.host (old e.host) e → AreOrphans view sends
      tc_sends step =
          both_tell step.does.front step.does.rest (front step.does.enters) (rest step.does.takes) step.does.sent
        where
          front : PartEnters tc_kind step.own stood x step.does.between view step.does.front
              → AreOrphans view step.does.front
          front (remains same stands none) = subst (AreOrphans view) (sym none) tt
          front (installs above same stands is) = subst (AreOrphans view) (sym is) (tc_enters_tell view step.own x.view)

          rest : PartTakes tc_kind start.shape step.does.between view x step.does.own step.does.rest
              → AreOrphans view step.does.rest
          rest (ignores same none) = subst (AreOrphans view) (sym none) tt
          rest (handles passed same is) =
              subst (AreOrphans view) (sym is) (tc_tells view step.does.between x x.to.block)

      ldm_sends : LdmStep start e.host (old e.host) e → AreOrphans view sends
      unfolding ldm_row
      ldm_sends step =
          both_tell step.does.front step.does.rest (front step.does.enters) (rest step.does.takes) step.does.sent
        where
          front : PartEnters ldm_kind step.own stood x step.does.between view step.does.front
              → AreOrphans view step.does.front
          front (remains same stands none) = subst (AreOrphans view) (sym none) tt
          front (installs above same stands is) = subst (AreOrphans view) (sym is) tt

          both : SavingState
          both = saving step.does.between.replica step.does.between.saver

          told_in : AreOrphans both.replica.lqh.layout.view (saver_row both x).effects.sends
          told_in =
              saver_sends both x (AreOrphans both.replica.lqh.layout.view) (rows_tell_orphans both.replica x) tt
              (record {
                goes_on = λ is. (tt, tt);
                reports = λ walk to is walking. (tt, tt);
                confirms = λ finished end ordered walked usable. (tt, tt);
              })

          row : (b : BlockId) → AreOrphans view (ldm_row step.does.between b x).effects.sends
          row block.Lqh =
              subst (λ (l : Layout). AreOrphans l.view (saver_row both x).effects.sends)
              (ldm_enters start step.own stood x step.does.between view step.does.front step.does.enters step.laid)
              told_in
          row _ = tt

          rest : PartTakes ldm_kind start.shape step.does.between view x step.does.own step.does.rest
              → AreOrphans view step.does.rest
          rest (ignores same none) = subst (AreOrphans view) (sym none) tt
          rest (handles passed same is) = subst (AreOrphans view) (sym is) (row x.to.block)

      sends_tell : AreOrphans view sends
      sends_tell = by (part_host start moment.cluster.nobody e.host (host_low start all e es moment))
        where
          by : PartHost start e.host → AreOrphans view sends
          by (coordinates me there at) =
              tc_sends (tc_step start moment.cluster.nobody me there e.host at (old e.host) e)
          by (keeps_rows me there at) =
              ldm_sends (ldm_step start moment.cluster.nobody me there e.host at (old e.host) e)
          by (is_beside first) = aside_orphans view sends (beside_sends start e.host first (old e.host) e)

      orphans_next : AllOrphans start (logs_of start (e ∷ es))
      orphans_next = record {
        signals =
            sent_next start IsRightlyTold all e es moment own.signals
            (λ goes.
            sent_so start e.host (old e.host) e (λ (v : View) to (body : Body). TellsOf (IsOrphan v) body) sends_tell);
        gathered = gathered_next;
      }

  all_orphans : (all : ℕ → List HostStep) (es : List HostStep) → IsMoment start all es
      → AllOrphans start (logs_of start es)
  all_orphans all [] moment = orphans_first moment.cluster.nobody
  all_orphans all (e ∷ es) moment =
      orphans_next all e es moment (all_orphans all es (moment_less start all e es moment))

pub takeovers_are_of_orphans : TakeoversAreOfOrphans
takeovers_are_of_orphans = all_orphans
