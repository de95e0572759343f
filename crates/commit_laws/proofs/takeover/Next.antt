-- What stands of takeovers stands behind each event.
use Rattle.std.proofs.Common.{◌≡◌, ◌∙◌, ℕ, true, List, ◌∷◌, refl, sym, ap, subst, arith}
use Rattle.run_theory.specs.Lists.{Each, IsIn}
use Rattle.run_theory.proofs.EventCases.{event_cases}
use Rattle.sig_core.specs.declared.member.Member.{Member}
use Rattle.sig_core.specs.declared.member.TxId.{TxId}
use Rattle.sig_core.specs.declared.place.BlockId.{BlockId}
use Rattle.sig_core.specs.declared.place.BlockId.TheVariants as block
use Rattle.sig_core.specs.declared.signal.Body.{Body}
use Rattle.sig_core.specs.declared.signal.Body.TheVariants.{Takeover}
use Rattle.sig_core.specs.declared.signal.Signal.{Signal}
use Rattle.sig_core.specs.declared.signal.takeover.RecordState.{RecordState}
use Rattle.sig_core.specs.declared.signal.takeover.RecordState.TheVariants as state
use Rattle.sig_core.specs.declared.signal.takeover.TakeoverSignal.TheVariants.{LqhTransConf}
use Rattle.sig_core.specs.declared.view.View.{View}
use Rattle.frag_map.specs.Layout.{Layout}
use Rattle.takeover_block.specs.declared.gathered.Gathered.{Gathered}
use Rattle.takeover_block.specs.Gathered.{told_epoch}
use Rattle.takeover_block.specs.State.{TakeoverState}
use Rattle.node_views.specs.declared.parts.Parts.TheVariants as part
use Rattle.node_views.specs.declared.tc_part.TcPart.{TcPart}
use Rattle.node_views.specs.Parts.{tc_row}
use Rattle.world_core.specs.Start.{Start, made}
use Rattle.world_core.specs.Steps.{Addressed, HostStep}
use Rattle.world_views.specs.Machine.{machine}
use Rattle.view_laws.specs.Runs.{view_after}
use Rattle.moment_laws.specs.Moments.{IsMoment, current, logs_of}
use Rattle.moment_laws.specs.Parts.{IsPassed}
use Rattle.moment_laws.specs.PartSteps.{PartEnters, PartTakes, handles, ignores, installs, remains, tc_kind}
use Rattle.moment_laws.specs.Places.{tc_of}
use Rattle.moment_laws.proofs.MomentViews.{current_number, number_in}
use Rattle.moment_laws.proofs.PartTaken.{IsTakenNow}
use Rattle.outcome_laws.specs.Tells.{TellsOfRecord}
use Rattle.request_laws.specs.Blocks.{takeover_after}
use Rattle.request_laws.proofs.routes.BesideRows.{is_of_rows}
use Rattle.request_laws.proofs.routes.Headers.{takeover_fenced, told_of}
use Rattle.request_laws.proofs.routes.Layouts.{runs_tc}
use Rattle.request_laws.proofs.orphans.TakeoversOfOrphans.{takeovers_are_of_orphans}
use Rattle.request_laws.proofs.routes.PartSteps.{TcStep, own_tc, takeover_is}
use Rattle.request_laws.specs.Orphans.{IsOrphan}
use Rattle.commit_laws.specs.Gathering.{GatheringsAreWhole}
use Rattle.commit_laws.specs.Takeovers.{IsTrueReport, TakeoverStands, TellsFate, takeover_at}
use Rattle.commit_laws.specs.Together.{FatesMove, Follows}
use Rattle.commit_laws.proofs.fates.Forth.{commits_more}
use Rattle.commit_laws.proofs.forth.Speaks.{Anyone, Of}
use Rattle.commit_laws.proofs.fates.SpokenEvents.{fenced_keeps}
use Rattle.commit_laws.proofs.fates.SpokenHost.{between_closes, stood_still, taken}
use Rattle.commit_laws.proofs.fates.SpokenTakeover.{Hears, TakeoverIs, goes_on_so, is_installed}
use Rattle.commit_laws.proofs.takeover.GoesOn.{stands_on, takeover_goes}
use Rattle.commit_laws.proofs.takeover.Words.{Aborts, Commits, IsRight, Stands, is_stands}

module _ (whole : GatheringsAreWhole) (start : Start) (all : ℕ → List HostStep) (e : HostStep) (es : List HostStep)
    (follows : Follows start all e es) (moves : (tx : TxId) → FatesMove start e es tx) (member : Member)
    (there : IsIn member (made start))
  where
    abbrev old : ℕ → List HostStep
    old = logs_of start es

    abbrev new : ℕ → List HostStep
    new = logs_of start (e ∷ es)

    abbrev moment : IsMoment start all (e ∷ es)
    moment = follows.moment

    abbrev h : ℕ
    h = tc_of start member

    abbrev log : List HostStep
    log = logs_of start es (tc_of start member)

    abbrev x : Signal
    x = e.step.taken

    abbrev Has : TakeoverState → Type 0
    Has s = TakeoverIs (Aborts start new) (Commits start new) (IsRight start new) s

    module _ (at : e.host ≡ tc_of start member) where
      abbrev step : TcStep start (tc_of start member) log e
      step = own_tc start follows.moment.cluster.nobody member there log e

      abbrev p : TcPart
      p = step.own

      abbrev between : TcPart
      between = step.does.between

      abbrev stood : View
      stood = view_after start (tc_of start member) log

      abbrev view : View
      view = view_after start (tc_of start member) (e ∷ log)

      -- what a member tells is true
      heard : IsTakenNow start all e es moment block.Takeover
          → Hears (Aborts start new) (Commits start new) (IsRight start new) x.body
      heard taken = by x.body refl
        where
          Reports : Addressed → Type 0
          Reports y =
              y.signal.view.number ≡ current_number start old → IsTrueReport start old y.signal.view y.signal.body

          by : (body : Body) → x.body ≡ body → Hears (Aborts start new) (Commits start new) (IsRight start new) body
          by (Takeover (LqhTransConf tx key told epoch)) is =
              fates told
              ((subst (IsTrueReport start old x.view) is
              (told_of start all e es moment Reports follows.stood.takeovers.reports taken.sound of_rows header)).1)
            where
              of_rows : is_of_rows x.body ≡ true
              of_rows = ap is_of_rows is

              same : current start new ≡ current start old
              same =
                  fenced_keeps start all e es moment block.Takeover taken of_rows
                  (takeover_fenced x (LqhTransConf tx key told epoch) is)

              header : x.view.number ≡ current_number start old
              header =
                  taken.fresh (takeover_fenced x (LqhTransConf tx key told epoch) is)
                  ∙ ap (λ (v : View). v.number) same

              fates : (told : RecordState) → TellsFate start old tx (told_epoch told epoch)
                  → TellsOfRecord (Of (Commits start new)) Anyone tx told epoch
              fates state.Prepared fate = tt
              fates state.Committed fate = commits_more start all e es moment moves same tx fate
              fates state.Marker fate = commits_more start all e es moment moves same tx fate
          by body is = tt

      -- of the part behind the event, if its host stands in the current view
      module _ (stands : view.number ≡ current_number start new) where
        between_has : PartEnters tc_kind p stood x between view step.does.front → Has between.takeover
        between_has (remains same still none) =
            let number : view.number ≡ stood.number = ap (λ (v : View). v.number) still in
            subst (λ (q : TcPart). Has q.takeover) (sym same)
            (subst Has (takeover_is start member h log refl p step.runs)
            (stands_on start all e es follows moves member there
            (stood_still start all e es moment member there view.number stands (omega (arith, number)))))
        between_has (installs above same still none) =
            subst (λ (q : TcPart). Has q.takeover) (sym same)
            (is_installed (Aborts start new) (Commits start new) (IsRight start new) p.takeover x.view)

        row_has : IsPassed start.shape (part.Tc between) view x → Has (tc_row between x.to.block x).state.takeover
        unfolding tc_row
        row_has passed = by x.to.block refl
          where
            has : Has between.takeover
            has = between_has step.does.enters

            by : (b : BlockId) → x.to.block ≡ b → Has (tc_row between b x).state.takeover
            by block.Takeover to =
                goes_on_so (Aborts start new) (Commits start new) (IsRight start new) (λ g right none. right.0 none)
                between.takeover has x
                (between_closes start all e es moment member there at (IsRight start new)
                (takeover_goes start all e es follows moves member there whole at) step.does.enters passed to)
                (heard
                (taken start all e es moment member there at (IsRight start new)
                (takeover_goes start all e es follows moves member there whole at) step.does.enters passed
                block.Takeover to))
            by block.Tc to = has
            by block.Dih to = has
            by _ to = has

        own_has : PartTakes tc_kind start.shape between view x step.does.own step.does.rest → Has step.does.own.takeover
        own_has (ignores same none) = subst (λ (q : TcPart). Has q.takeover) (sym same) (between_has step.does.enters)
        own_has (handles passed same sent) = subst (λ (q : TcPart). Has q.takeover) (sym same) (row_has passed)

      own_next : view.number ≡ current_number start new → Has (takeover_after start member (e ∷ log))
      own_next stands =
          subst Has (sym (takeover_is start member h (e ∷ log) refl step.does.own step.does.is))
          (own_has stands step.does.takes)

    next_has : number_in start new h ≡ current_number start new → Has (takeover_at start new member)
    next_has =
        event_cases (machine start) e es h
        (λ log. (view_after start h log).number ≡ current_number start new → Has (takeover_after start member log))
        own_next
        (λ off stands.
        stands_on start all e es follows moves member there
        (stood_still start all e es moment member there (number_in start old h) stands (omega arith)))

    -- the takeover has the layout of the view in which its host stands
    laid : (takeover_at start new member).layout.view ≡ view_after start (tc_of start member) (new (tc_of start member))
    laid =
        let runs = runs_tc start follows.moment.cluster.nobody member there (new (tc_of start member)) in
        ap (λ (s : TakeoverState). s.layout.view)
        (takeover_is start member h (new (tc_of start member)) refl runs.own runs.runs)
        ∙ ap (λ (l : Layout). l.view) runs.laid.takeover

    pub takeover_next : TakeoverStands start (logs_of start (e ∷ es)) member
    takeover_next = record {
      orphans =
          subst (λ (v : View). Each (λ (g : Gathered). IsOrphan v g.tx) (takeover_at start new member).gathered)
          (sym laid)
          ((takeovers_are_of_orphans start all (e ∷ es) moment).gathered member there);
      told = λ stands. (all_stands stands).told;
      ruled = λ stands. (all_stands stands).ruled;
      whole = λ stands. (all_stands stands).whole;
      left = λ stands. (all_stands stands).left;
    }
      where
        all_stands : number_in start new h ≡ current_number start new → Stands start new (takeover_at start new member)
        all_stands stands = is_stands start new (takeover_at start new member) (next_has stands)
