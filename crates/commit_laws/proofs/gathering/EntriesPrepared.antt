-- When the last member ends, each transaction that is gathered without an epoch is prepared at a replica: no takeover
-- was at work in the view yet, so it is as the takeover was told.
use Rattle.std.proofs.Common.{◌≡◌, ◌⊎◌, ◌∙◌, ℕ, true, List, [], ◌∷◌, inl, inr, refl, sym, ap, subst, arith}
use Rattle.std.proofs.lemmas.Bool.{true≢false}
use Rattle.std.specs.Prelude.{Option, None, Some, slice_get}
use Rattle.run_theory.specs.Lists.{Each, IsIn}
use Rattle.run_theory.proofs.Pasts.{each_after, each_append, each_before, each_from, each_in, each_map}
use Rattle.run_theory.proofs.EventCases.{event_cases}
use Rattle.commit_laws.proofs.hosts.OwnTaken.{tc_taken}
use Rattle.sig_core.specs.declared.member.Member.{Member}
use Rattle.sig_core.specs.declared.member.TxId.{TxId}
use Rattle.sig_core.specs.declared.place.BlockId.{BlockId}
use Rattle.sig_core.specs.declared.place.BlockId.TheVariants as block
use Rattle.sig_core.specs.declared.signal.Body.TheVariants.{Takeover}
use Rattle.sig_core.specs.declared.signal.Signal.{Signal}
use Rattle.sig_core.specs.declared.signal.takeover.RecordState.{RecordState}
use Rattle.sig_core.specs.declared.signal.takeover.TakeoverSignal.TheVariants.{LqhTransConf}
use Rattle.sig_core.specs.declared.view.View.{View}
use Rattle.sig_core.specs.Step.{Step}
use Rattle.frag_map.specs.Layout.{first_layout}
use Rattle.takeover_block.specs.declared.gathered.Gathered.{Gathered}
use Rattle.takeover_block.specs.declared.stage.Stage.TheVariants as stage
use Rattle.takeover_block.specs.Gathered.{first_epoch, noted, told_epoch, told_first, told_more}
use Rattle.takeover_block.specs.Rule.{entering, finishing, ruling, ruling_by, way_by, way_of}
use Rattle.takeover_block.specs.State.{TakeoverState, resting, with_gathered}
use Rattle.takeover_block.specs.Takeover.{takeover_row}
use Rattle.takeover_block.proofs.EachTakeover.{is_gathering, takeover_each}
use Rattle.takeover_block.proofs.NotedLemmas.{IsMore, IsNew, noted_is}
use Rattle.node_views.specs.declared.host_body.HostBody as hosts_of
use Rattle.node_views.specs.declared.parts.Parts.TheVariants as part
use Rattle.node_views.specs.declared.tc_part.TcPart.{TcPart}
use Rattle.node_views.specs.Parts.{tc_row}
use Rattle.world_core.specs.Start.{Start, made}
use Rattle.world_core.specs.Steps.{HostStep}
use Rattle.world_views.specs.Machine.{machine}
use Rattle.view_laws.specs.Runs.{view_after}
use Rattle.moment_laws.specs.Moments.{IsMoment, current, logs_of}
use Rattle.moment_laws.specs.Parts.{IsPassed}
use Rattle.moment_laws.specs.PartSteps.{PartEnters, PartTakes, handles, ignores, installs, remains, tc_kind}
use Rattle.moment_laws.specs.Places.{tc_of}
use Rattle.moment_laws.proofs.MomentHosts.{tc_low, tc_started}
use Rattle.moment_laws.proofs.MomentTurns.{current_rises, old_current}
use Rattle.moment_laws.proofs.MomentViews.{current_above, current_number, moment_less, number_in}
use Rattle.moment_laws.proofs.PartTaken.{IsTakenNow}
use Rattle.request_laws.specs.Blocks.{takeover_after, takeover_in}
use Rattle.request_laws.proofs.routes.BesideRows.{is_of_rows}
use Rattle.request_laws.proofs.routes.Headers.{takeover_fenced, told_of}
use Rattle.request_laws.proofs.orphans.TakeoversOfOrphans.{takeovers_are_of_orphans}
use Rattle.request_laws.proofs.routes.PartSteps.{TcStep, own_tc, takeover_is}
use Rattle.request_laws.specs.Orphans.{IsOrphan}
use Rattle.commit_laws.specs.Gathering.{EndsGathering, IsPreparedSomewhere}
use Rattle.commit_laws.specs.Ruling.{NoneRuled}
use Rattle.commit_laws.specs.Takeovers.{takeover_at}
use Rattle.commit_laws.proofs.gathering.Alone.{none_ruled}
use Rattle.commit_laws.proofs.gathering.PreparedTold.{IsPreparedIf, TellsPrepared, none_before, prepared_stays}
use Rattle.commit_laws.proofs.gathering.PreparedTold.{prepared_told}
use Rattle.commit_laws.proofs.fates.SpokenEvents.{fenced_keeps}
use Rattle.commit_laws.proofs.takeover.Reports.{Fated}
use Rattle.commit_laws.proofs.orders.Together.{orders_once}

-- each entry of the transaction that has no epoch says so
module _ (tx : TxId) (R : Type 0) where
  abbrev SaysSo : Gathered → Type 0
  SaysSo g = g.epoch ≡ None → g.tx ≡ tx → R

  abbrev AllSay : List Gathered → Type 0
  AllSay gs = Each (λ (g : Gathered). g.epoch ≡ None → g.tx ≡ tx → R) gs

  -- and one more does, if what is told does
  noted_says : (gs : List Gathered) (other : TxId) (key : List ℕ) (epoch : Option ℕ) → (epoch ≡ None → other ≡ tx → R)
      → AllSay gs → AllSay (noted gs other key epoch)
  noted_says gs other key epoch told before = by (noted_is gs other key epoch)
    where
      more_says : (own : Gathered) → own.tx ≡ other → SaysSo (told_more own key epoch)
      more_says own same = which own.epoch
        where
          which : (o : Option ℕ) → first_epoch o epoch ≡ None → own.tx ≡ tx → R
          which None none is = told none (sym same ∙ is)
          which (Some first) none is = let no : Some first ≡ None = none in absurd cc

      by : IsNew other key epoch gs (noted gs other key epoch) ⊎ IsMore other key epoch gs (noted gs other key epoch)
          → AllSay (noted gs other key epoch)
      by (inl new) =
          let parts = subst AllSay new.is before in
          subst AllSay (sym new.after)
          (each_append SaysSo new.front (told_first other key epoch ∷ new.back)
          (each_before SaysSo new.front new.back parts) (told, each_after SaysSo new.front new.back parts))
      by (inr more) =
          let parts = subst AllSay more.is before in
          subst AllSay (sym more.after)
          (each_append SaysSo more.front (told_more more.own key epoch ∷ more.back)
          (each_before SaysSo more.front (more.own ∷ more.back) parts)
          (more_says more.own more.same, (each_after SaysSo more.front (more.own ∷ more.back) parts).1))

  -- while a takeover gathers
  abbrev SayAt : TakeoverState → Type 0
  SayAt s = is_gathering s.stage ≡ true → AllSay s.gathered

  gathers : (s : TakeoverState) (n : ℕ) → s.stage ≡ stage.Gathering n → is_gathering s.stage ≡ true
  gathers s n is = ap is_gathering is

  ruled : (s : TakeoverState) → SayAt (ruling s).state
  unfolding ruling entering way_of
  ruled s = by (slice_get s.gathered 0)
    where
      way : (g : Gathered) (o : Option ℕ) → is_gathering (way_by s.layout g.keys o) ≡ true → ⊥
      way g None is = true≢false (sym is)
      way g (Some epoch) is = true≢false (sym is)

      by : (o : Option Gathered) → SayAt (ruling_by s o).state
      by None = λ is. absurd (true≢false (sym is))
      by (Some g) = λ is. absurd (way g g.epoch is)

  finished : (s : TakeoverState) → SayAt (finishing s).state
  unfolding finishing
  finished s = ruled (with_gathered s _)

  row_says : (s : TakeoverState) (x : Signal)
      → ((other : TxId) (key : List ℕ) (told : RecordState) (epoch : ℕ)
      → x.body ≡ Takeover (LqhTransConf other key told epoch) → told_epoch told epoch ≡ None → other ≡ tx → R)
      → SayAt s → SayAt (takeover_row s x).state
  unfolding entering
  row_says s x told before =
      takeover_each s (λ (step : Step TakeoverState). SayAt step.state) x.body (record {
        stays = λ other. before;
        untold = λ other key state epoch is idle. before;
        unended = λ is idle. before;
        orders = λ is some gathering. tt;
        orders_nobody = λ is none. ruled _;
        asks = λ place n is due at. before;
        tells = λ other key state epoch n is at gathering.
            noted_says s.gathered other key (told_epoch state epoch) (told other key state epoch is)
            (before (gathers s n at));
        ends = λ n is at more gathering. before (gathers s n at);
        all_end = λ n is at last. ruled s;
        commits = λ other key g e n is first at more gathering. absurd (true≢false (sym gathering));
        all_commit = λ other key g e n is first at last gathering. absurd (true≢false (sym gathering));
        completes = λ other key g e n is first at more gathering. absurd (true≢false (sym gathering));
        all_complete = λ other key g e n is first at last. finished s;
        aborts = λ other key g n is first at more gathering. absurd (true≢false (sym gathering));
        all_abort = λ other key g n is first at last. finished s;
        goes_on = λ other place g is due work first. before;
      })

module _ (start : Start) (all : ℕ → List HostStep) (tx : TxId) (member : Member) (there : IsIn member (made start))
  where
    abbrev h : ℕ
    h = tc_of start member

    -- so it is of what a takeover gathers in the current view, as long as none was at work in it
    abbrev ArePrepared : List HostStep → Type 0
    ArePrepared es =
        NoneRuled start es → IsOrphan (current start (logs_of start es)) tx
        → number_in start (logs_of start es) (tc_of start member) ≡ current_number start (logs_of start es)
        → SayAt tx (IsPreparedSomewhere start (logs_of start es) tx) (takeover_at start (logs_of start es) member)

    module _ (e : HostStep) (es : List HostStep) (moment : IsMoment start all (e ∷ es)) (before : ArePrepared es)
        (none : NoneRuled start (e ∷ es)) (orphan : IsOrphan (current start (logs_of start (e ∷ es))) tx)
      where
        abbrev old : ℕ → List HostStep
        old = logs_of start es

        abbrev new : ℕ → List HostStep
        new = logs_of start (e ∷ es)

        abbrev log : List HostStep
        log = logs_of start es (tc_of start member)

        abbrev x : Signal
        x = e.step.taken

        abbrev R : Type 0
        R = IsPreparedSomewhere start (logs_of start (e ∷ es)) tx

        less : IsMoment start all es
        less = moment_less start all e es moment

        orphan_was : current start new ≡ current start old → IsOrphan (current start old) tx
        orphan_was same = subst (λ (v : View). IsOrphan v tx) same orphan

        -- where its host stood in the view before the event in which it stands behind it
        was : number_in start old h ≡ current_number start new → SayAt tx R (takeover_after start member log)
        was stands gathering =
            each_map (SaysSo tx (IsPreparedSomewhere start old tx)) (SaysSo tx R)
            (takeover_after start member log).gathered
            (λ g says untold is. prepared_stays start all e es moment none tx orphan same (says untold is))
            (before (none_before start all e es moment none tx orphan same) (orphan_was same)
            (stands ∙ ap (λ (v : View). v.number) same) gathering)
          where
            same : current start new ≡ current start old
            same =
                let above = current_above start old moment.cluster.nobody h
                (tc_low start moment.cluster.nobody member there) in
                let rises = current_rises start all e es moment in
                old_current start all e es moment (omega (arith, stands, above, rises))

        -- and of what it is told
        heard : IsTakenNow start all e es moment block.Takeover → (other : TxId) (key : List ℕ) (told : RecordState)
            (epoch : ℕ)
            → x.body ≡ Takeover (LqhTransConf other key told epoch) → told_epoch told epoch ≡ None → other ≡ tx → R
        heard taken other key told epoch is untold own =
            prepared_stays start all e es moment none tx orphan same (fated untold own)
          where
            of_rows : is_of_rows x.body ≡ true
            of_rows = ap is_of_rows is

            same : current start new ≡ current start old
            same =
                fenced_keeps start all e es moment block.Takeover taken of_rows
                (takeover_fenced x (LqhTransConf other key told epoch) is)

            number : x.view.number ≡ current_number start old
            number =
                taken.fresh (takeover_fenced x (LqhTransConf other key told epoch) is)
                ∙ ap (λ (v : View). v.number) same

            fated : IsPreparedIf start old tx other (told_epoch told epoch)
            fated =
                subst (Fated (IsPreparedIf start old tx)) is
                (told_of start all e es moment (TellsPrepared start old tx)
                (prepared_told start all es less (none_before start all e es moment none tx orphan same) tx
                (orphan_was same))
                taken.sound of_rows number)

        module _ (at : e.host ≡ tc_of start member) where
          abbrev own : TcStep start (tc_of start member) log e
          own = own_tc start moment.cluster.nobody member there log e

          abbrev between : TcPart
          between = own.does.between

          abbrev stood : View
          stood = view_after start (tc_of start member) log

          abbrev view : View
          view = view_after start (tc_of start member) (e ∷ log)

          module _ (stands : view.number ≡ current_number start new) where
            between_says : PartEnters tc_kind own.own stood x between view own.does.front → SayAt tx R between.takeover
            between_says (remains same stays nothing) =
                let number : view.number ≡ stood.number = ap (λ (v : View). v.number) stays in
                subst (λ (q : TcPart). SayAt tx R q.takeover) (sym same)
                (subst (SayAt tx R) (takeover_is start member h log refl own.own own.runs) (was (sym number ∙ stands)))
            between_says (installs above same stays sent) =
                subst (λ (q : TcPart). SayAt tx R q.takeover) (sym same)
                (λ gathering. absurd (true≢false (sym gathering)))

            taken_by : (b : BlockId) → x.to.block ≡ b → IsPassed start.shape (part.Tc between) view x
                → IsTakenNow start all e es moment b
            taken_by b to passed = tc_taken start all e es moment h at own passed b to

            own_row : IsPassed start.shape (part.Tc between) view x → (b : BlockId) → x.to.block ≡ b
                → SayAt tx R (tc_row between b x).state.takeover
            unfolding tc_row
            own_row passed block.Takeover to =
                row_says tx R between.takeover x (heard (taken_by block.Takeover to passed))
                (between_says own.does.enters)
            own_row passed block.Tc to = between_says own.does.enters
            own_row passed block.Dih to = between_says own.does.enters
            own_row passed _ to = between_says own.does.enters

            takes_say : PartTakes tc_kind start.shape between view x own.does.own own.does.rest
                → SayAt tx R own.does.own.takeover
            takes_say (ignores same nothing) =
                subst (λ (q : TcPart). SayAt tx R q.takeover) (sym same) (between_says own.does.enters)
            takes_say (handles passed same sent) =
                subst (λ (q : TcPart). SayAt tx R q.takeover) (sym same) (own_row passed x.to.block refl)

            own_says : SayAt tx R (takeover_after start member (e ∷ log))
            own_says =
                subst (SayAt tx R) (sym (takeover_is start member h (e ∷ log) refl own.does.own own.does.is))
                (takes_say own.does.takes)

        prepared_next : number_in start new h ≡ current_number start new → SayAt tx R (takeover_at start new member)
        prepared_next =
            event_cases (machine start) e es h
            (λ log. (view_after start h log).number ≡ current_number start new
            → SayAt tx R (takeover_after start member log))
            own_says (λ off. was)

    are_prepared : (es : List HostStep) → IsMoment start all es → ArePrepared es
    are_prepared [] moment = λ none orphan stands.
        subst (SayAt tx (IsPreparedSomewhere start (logs_of start []) tx))
        (sym (ap (λ (s : hosts_of.HostBody). takeover_in (resting member.node (first_layout start.shape)) s.parts)
        (tc_started start moment.cluster.nobody member there)))
        (λ gathering. absurd (true≢false (sym gathering)))
    are_prepared (e ∷ es) moment = λ none orphan stands.
        prepared_next e es moment (are_prepared es (moment_less start all e es moment)) none orphan stands

pub entries_prepared : (start : Start) (all : ℕ → List HostStep) (e : HostStep) (es : List HostStep)
    → IsMoment start all (e ∷ es) → (member : Member) → EndsGathering start e es member
    → Each (λ (g : Gathered). g.epoch ≡ None → IsPreparedSomewhere start (logs_of start es) g.tx)
    (takeover_at start (logs_of start es) member).gathered
entries_prepared start all e es moment member closing =
    each_from (λ (g : Gathered). g.epoch ≡ None → IsPreparedSomewhere start old g.tx) gathered
    (λ g inside untold.
    each_in (λ (v : Gathered). v.epoch ≡ None → v.tx ≡ g.tx → IsPreparedSomewhere start old g.tx) g gathered
    (are_prepared start all g.tx member closing.made_is es less (none g inside) (orphan g inside) stands gathering)
    inside untold refl)
  where
    old : ℕ → List HostStep
    old = logs_of start es

    less : IsMoment start all es
    less = moment_less start all e es moment

    gathered : List Gathered
    gathered = (takeover_at start (logs_of start es) member).gathered

    stood : View
    stood = view_after start (tc_of start member) (logs_of start es (tc_of start member))

    stands : number_in start (logs_of start es) (tc_of start member) ≡ current_number start (logs_of start es)
    stands = ap (λ (v : View). v.number) closing.stands

    gathering : is_gathering (takeover_at start (logs_of start es) member).stage ≡ true
    gathering = ap is_gathering closing.gathers

    orphan : (g : Gathered) → IsIn g (takeover_at start (logs_of start es) member).gathered
        → IsOrphan (current start (logs_of start es)) g.tx
    orphan g inside =
        subst (λ (v : View). IsOrphan v g.tx) closing.stands
        (each_in (λ (v : Gathered). IsOrphan stood v.tx) g (takeover_at start (logs_of start es) member).gathered
        ((takeovers_are_of_orphans start all es less).gathered member closing.made_is) inside)

    none : (g : Gathered) → IsIn g (takeover_at start (logs_of start es) member).gathered → NoneRuled start es
    none g inside =
        none_ruled orders_once start all es less member closing.made_is stands gathering g.tx (orphan g inside)
