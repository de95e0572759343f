-- Once a takeover is over, whoever commits and has no coordinator in the current view is done.
use Rattle.std.proofs.Common.{◌≡◌, ◌≤◌, ◌⊎◌, ◌==◌, ◌∙◌, nat_lt, ℕ, true, false, List, [], ◌∷◌, arith, inl, inr}
use Rattle.std.proofs.Common.{refl, sym, ap, subst}
use Rattle.std.specs.Prelude.{Option, None, Some, slice_get}
use Rattle.run_theory.specs.Links.{sent, sent_by, taken}
use Rattle.run_theory.specs.Lists.{Each, IsIn}
use Rattle.run_theory.specs.Machine.{Machine}
use Rattle.run_theory.proofs.Links.{put_each, sent_by_each}
use Rattle.run_theory.proofs.Pasts.{each_from, each_in, each_map}
use Rattle.run_theory.proofs.Runs.{logs_of_run}
use Rattle.run_theory.proofs.EventCases.{event_cases}
use Rattle.sig_core.specs.declared.member.Member.{Member}
use Rattle.sig_core.specs.declared.member.TxId.{TxId}
use Rattle.sig_core.specs.declared.outs.Outgoing.{Outgoing}
use Rattle.sig_core.specs.declared.place.BlockId.{BlockId}
use Rattle.sig_core.specs.declared.place.BlockId.TheVariants as block
use Rattle.sig_core.specs.declared.place.Place.{Place}
use Rattle.sig_core.specs.declared.signal.Body.{Body}
use Rattle.sig_core.specs.declared.signal.Body.TheVariants.{Takeover}
use Rattle.sig_core.specs.declared.signal.Signal.{Signal}
use Rattle.sig_core.specs.declared.signal.takeover.TakeoverSignal.TheVariants.{LqhTransEnd, TakeoverEnd}
use Rattle.sig_core.specs.declared.view.View.{View}
use Rattle.frag_map.specs.Layout.{Layout, first_layout}
use Rattle.takeover_block.specs.declared.gathered.Gathered.{Gathered}
use Rattle.takeover_block.specs.declared.stage.Stage.{Stage}
use Rattle.takeover_block.specs.declared.stage.Stage.TheVariants.{Aborting, Committing, Completing, Gathering, Resting}
use Rattle.takeover_block.specs.Gather.{member_count}
use Rattle.takeover_block.specs.Sends.{told_committed}
use Rattle.takeover_block.specs.State.{TakeoverState, resting}
use Rattle.takeover_block.specs.Takeover.{takeover_row}
use Rattle.node_views.specs.declared.host_body.HostBody as node
use Rattle.node_views.specs.declared.parts.Parts.TheVariants as part
use Rattle.node_views.specs.declared.tc_part.TcPart.{TcPart}
use Rattle.node_views.specs.Parts.{tc_row}
use Rattle.world_core.specs.Start.{NobodyStarts, Start, made}
use Rattle.world_core.specs.Steps.{Addressed, HostStep}
use Rattle.world_views.specs.Machine.{machine, step_after}
use Rattle.view_laws.specs.Order.{sound_machine}
use Rattle.view_laws.specs.Runs.{view_after}
use Rattle.view_laws.specs.Votes.{main_of}
use Rattle.moment_laws.specs.Moments.{IsMoment, current, logs_of}
use Rattle.moment_laws.specs.Parts.{IsPassed}
use Rattle.moment_laws.specs.PartSteps.{PartEnters, PartTakes, handles, ignores, installs, remains, tc_kind}
use Rattle.moment_laws.specs.Places.{tc_of}
use Rattle.moment_laws.proofs.MomentHosts.{tc_low, tc_started}
use Rattle.moment_laws.proofs.MomentSignals.{sent_below}
use Rattle.moment_laws.proofs.MomentTurns.{current_rises, old_current}
use Rattle.moment_laws.proofs.MomentViews.{current_number, moment_less, number_in, stands_in_current}
use Rattle.outcome_laws.proofs.knowledge.Moments.{is_host, not_closed}
use Rattle.request_laws.specs.Blocks.{takeover_after, takeover_in}
use Rattle.request_laws.proofs.phases.Stands.{coordinators_stand}
use Rattle.request_laws.proofs.routes.Entering.{own_full}
use Rattle.request_laws.proofs.routes.Headers.{sent_so, takeover_fenced}
use Rattle.request_laws.proofs.routes.PartSteps.{TcStep, takeover_is}
use Rattle.request_laws.specs.Orphans.{IsOrphan}
use Rattle.commit_laws.proofs.reported.Takeovers.{has_members}
use Rattle.commit_laws.specs.Answered.{AllWereCommittedIn, IsAnswered}
use Rattle.commit_laws.specs.Gathering.{EndsGathering}
use Rattle.commit_laws.specs.Reported.{AreAttended, GatheringsList, IsListed, IsSaid, aborted, known, told}
use Rattle.commit_laws.specs.Takeovers.{takeover_at}
use Rattle.commit_laws.specs.Together.{FatesMove, Follows}
use Rattle.commit_laws.specs.Traces.{is_known}
use Rattle.commit_laws.proofs.settled.All.{all_stand}
use Rattle.commit_laws.proofs.answered.Rulings.{taken_by}
use Rattle.commit_laws.proofs.answered.Takeover.{takeover_answered}
use Rattle.commit_laws.proofs.drive.Foreign.{between_laid, step}
use Rattle.commit_laws.proofs.gathering.EndedAll.{all_have_ended}
use Rattle.commit_laws.proofs.gathering.EndsBehind.{ends_come_behind}
use Rattle.commit_laws.proofs.fates.Moves.{fates_move}
use Rattle.commit_laws.proofs.gathering.Listed.{gatherings_list}
use Rattle.commit_laws.proofs.forth.KnownComes.{known_commit}
use Rattle.commit_laws.proofs.orders.First.{orders_come_first}
use Rattle.commit_laws.proofs.orders.Sound.{given_so, sound_closes}
use Rattle.commit_laws.proofs.reported.Rulings.{IsLast, SaidBy, TellsAll, TellsOn, goes_on_telling, tells_more}
use Rattle.commit_laws.proofs.fates.SpokenHost.{StandsStill, stood_still}
use Rattle.commit_laws.proofs.fates.SpokenTakeover.{IsAbortingAt}
use Rattle.commit_laws.proofs.takeover.GoesOn.{stands_on}
use Rattle.commit_laws.proofs.takeover.Words.{Aborts}
use Rattle.commit_laws.proofs.gathering.TellingsWhole.{tellings_gathered}
use Rattle.closing_laws.specs.Closed.{IsOver}
use Rattle.closing_laws.specs.Over.{OverLeavesNone}
use Rattle.closing_laws.proofs.takeover.LeavesNone.{OverIsDone, over_leaves_none}
use Rattle.closing_laws.proofs.takeover.Seen.{IsSeenTo, aborting, knowing, seen_done, seen_more, told_seen}
use Rattle.closing_laws.proofs.takeover.Sends.{sends_over}
use Rattle.closing_laws.proofs.takeover.BesideClients.{IsBeside, takeover_together, told_complete}

list_gathered : GatheringsList
list_gathered =
    gatherings_list ends_come_behind all_have_ended (tellings_gathered orders_come_first) orders_come_first

-- whoever has no coordinator in the current view is seen to
abbrev pub AreSeenTo : Start → (ℕ → List HostStep) → Type 0
AreSeenTo start logs = (tx : TxId) → IsOrphan (current start logs) tx → IsSeenTo start logs tx

-- in the current view a takeover at work has seen to whoever isn't to be ruled on, and one that is over to all
record SeesToAll (start : Start) (logs : ℕ → List HostStep) : Type 0 where
  pub work : (member : Member) → IsIn member (made start)
      → number_in start logs (tc_of start member) ≡ current_number start logs
      → TellsAll (IsOrphan (current start logs)) (IsSeenTo start logs) (takeover_at start logs member)
  pub over : (member : Member) → IsIn member (made start) → (j : ℕ)
      → Each (λ (y : Addressed). y.signal.body ≡ Takeover TakeoverEnd
      → y.signal.view.number ≡ current_number start logs → AreSeenTo start logs)
      (sent (sound_machine start) (tc_of start member) j (logs (tc_of start member)))

module _ (start : Start) (all : ℕ → List HostStep) (e : HostStep) (es : List HostStep)
    (moment : IsMoment start all (e ∷ es))
  where
    abbrev old : ℕ → List HostStep
    old = logs_of start es

    abbrev new : ℕ → List HostStep
    new = logs_of start (e ∷ es)

    abbrev n : Machine HostStep Addressed
    n = sound_machine start

    abbrev x : Signal
    x = e.step.taken

    less : IsMoment start all es
    less = moment_less start all e es moment

    abbrev follows : Follows start all e es
    follows = record { moment = moment; stood = all_stand start all es (moment_less start all e es moment) }

    moves : (tx : TxId) → FatesMove start e es tx
    moves tx = fates_move known_commit start all e es follows tx

    -- who has no coordinator now, and is seen to
    abbrev O : TxId → Type 0
    O = IsOrphan (current start (logs_of start (e ∷ es)))

    abbrev S : TxId → Type 0
    S = IsSeenTo start (logs_of start (e ∷ es))

    seen_all : current start new ≡ current start old → AreSeenTo start old → AreSeenTo start new
    seen_all same was tx orphan =
        seen_more start all e es moment moves same tx (was tx (subst (λ (v : View). IsOrphan v tx) same orphan))

    back_more : (stage : Stage) (first : Option Gathered) → IsAbortingAt (Aborts start new) stage first
        → IsAbortingAt S stage first
    back_more (Aborting m) (Some g) is = aborting is
    back_more (Aborting m) None is = tt
    back_more Resting first is = tt
    back_more (Gathering m) first is = tt
    back_more (Committing epoch m) first is = tt
    back_more (Completing epoch m) first is = tt

    module _ (was : SeesToAll start (logs_of start es)) (member : Member) (there : IsIn member (made start)) where
      abbrev h : ℕ
      h = tc_of start member

      was_tells : StandsStill start e es member → TellsAll O S (takeover_at start old member)
      was_tells still =
          subst (λ (v : View). TellsAll (IsOrphan v) S (takeover_at start old member)) (sym still.current_is)
          (tells_more (IsOrphan (current start old)) (IsSeenTo start old) S
          (λ tx seen. seen_more start all e es moment moves still.current_is tx seen) (takeover_at start old member)
          (was.work member there still.number_is))

      module _ (at : e.host ≡ tc_of start member) where
        abbrev log : List HostStep
        log = logs_of start es e.host

        abbrev own_step : TcStep start e.host (logs_of start es e.host) e
        own_step = step start all e es moment member there at

        abbrev p : TcPart
        p = own_step.own

        abbrev between : TcPart
        between = own_step.does.between

        abbrev stood : View
        stood = view_after start e.host log

        abbrev view : View
        view = view_after start e.host (e ∷ log)

        takeover_same : takeover_at start old member ≡ p.takeover
        takeover_same =
            ap (λ k. takeover_after start member (old k)) (sym at)
            ∙ takeover_is start member e.host log at p own_step.runs

        members : (member_count between.takeover.layout.view == 0) ≡ true → ⊥
        members =
            has_members between.takeover.layout.view member
            (subst (λ (v : View). IsIn member v.full)
            (sym (ap (λ (l : Layout). l.view) (between_laid start all e es moment member there at).takeover))
            (subst (λ k. IsIn member (view_after start k (e ∷ old k)).full) (sym at)
            (own_full start all e es moment member there at (coordinators_stand start all es less member there))))

        module _ (stands : (view_after start e.host (e ∷ logs_of start es e.host)).number
            ≡ current_number start (logs_of start (e ∷ es)))
          where
            -- the takeover before it takes the signal
            record Inside : Type 0 where
              tells : TellsAll O S between.takeover
              back : IsAbortingAt S between.takeover.stage (slice_get between.takeover.gathered 0)
              closes : IsPassed start.shape (part.Tc between) view x → x.to.block ≡ block.Takeover → (m : ℕ)
                  → x.body ≡ Takeover LqhTransEnd → between.takeover.stage ≡ Gathering m → nat_lt 1 m ≡ false
                  → AreAttended O S between.takeover.gathered

            -- where its host stood in the view before
            module _ (same : between ≡ p) (seen : view ≡ stood) where
              still : StandsStill start e es member
              still =
                  let number : view.number ≡ stood.number = ap (λ (v : View). v.number) seen in
                  let here : stood.number ≡ number_in start old h =
                  ap (λ k. (view_after start k (old k)).number) at in
                  stood_still start all e es moment member there view.number stands (omega (arith, number, here))

              takeover_was : takeover_at start old member ≡ between.takeover
              takeover_was = takeover_same ∙ ap (λ (q : TcPart). q.takeover) (sym same)

              closing : IsPassed start.shape (part.Tc between) view x → x.to.block ≡ block.Takeover → (m : ℕ)
                  → x.body ≡ Takeover LqhTransEnd → between.takeover.stage ≡ Gathering m → nat_lt 1 m ≡ false
                  → EndsGathering start e es member
              closing passed to m ends gathers last = record {
                made_is = there;
                host_is = at;
                block_is = to;
                body_is = ends;
                sound = passed.sound;
                header =
                    (taken_by start all e es moment member there at block.Takeover to passed).fresh
                    (takeover_fenced x LqhTransEnd ends);
                same = still.current_is;
                stands = stands_in_current start all es less h (tc_low start moment.cluster.nobody member there)
                    still.number_is;
                awaited = m;
                gathers = ap (λ (s : TakeoverState). s.stage) takeover_was ∙ gathers;
                last = last;
              }

              attended : EndsGathering start e es member → AreAttended O S between.takeover.gathered
              attended ending tx orphan =
                  by
                  (list_gathered start all e es moment member ending tx
                  (subst (λ (v : View). IsOrphan v tx) still.current_is orphan))
                where
                  said : IsSaid start old tx [] → S tx
                  said (aborted is) = seen_more start all e es moment moves still.current_is tx (aborting is)
                  said (known is) = seen_more start all e es moment moves still.current_is tx (knowing is)
                  said (told one) = absurd one.there

                  by : IsSaid start old tx [] ⊎ IsListed tx (takeover_at start old member).gathered
                      → S tx ⊎ IsListed tx between.takeover.gathered
                  by (inl is) = inl (said is)
                  by (inr listed) =
                      inr (subst (λ (s : TakeoverState). IsListed tx s.gathered) takeover_was listed)

              inside_still : Inside
              inside_still = record {
                tells = subst (TellsAll O S) takeover_was (was_tells still);
                back =
                    subst (λ (s : TakeoverState). IsAbortingAt S s.stage (slice_get s.gathered 0)) takeover_was
                    (back_more (takeover_at start old member).stage
                    (slice_get (takeover_at start old member).gathered 0)
                    (stands_on start all e es follows moves member there still).aborting);
                closes = λ passed to m ends gathers last. attended (closing passed to m ends gathers last);
              }

            inside : PartEnters tc_kind p stood x between view own_step.does.front → Inside
            inside (remains same seen none) = inside_still same seen
            inside (installs above same seen sends) = record {
              tells = subst (λ (q : TcPart). TellsAll O S q.takeover) (sym same) (record { attended = tt; first = tt });
              back =
                  subst (λ (q : TcPart). IsAbortingAt S q.takeover.stage (slice_get q.takeover.gathered 0)) (sym same)
                  tt;
              closes = λ passed to m ends gathers last.
                  let rests : Resting ≡ Gathering m =
                  sym (ap (λ (q : TcPart). q.takeover.stage) same) ∙ gathers in
                  absurd cc;
            }

            i : Inside
            i = inside own_step.does.enters

            row : IsPassed start.shape (part.Tc between) view x → x.to.block ≡ block.Takeover
                → TellsOn O S (takeover_row between.takeover x)
            row passed to = goes_on_telling O S between.takeover i.tells i.back x members (i.closes passed to)

            -- whoever is told of a commit is seen to
            said_seen : IsPassed start.shape (part.Tc between) view x → x.to.block ≡ block.Takeover → (tx : TxId)
                → SaidBy O S (takeover_row between.takeover x).effects.sends tx → S tx
            unfolding tc_row
            said_seen passed to tx (inl seen) = seen
            said_seen passed to tx (inr now) =
                told_seen start all (e ∷ es) moment tx
                (subst (λ k. AllWereCommittedIn start new k tx ⊎ (is_known start new tx ≡ true)) stands
                (each_in (λ (o : Outgoing). IsAnswered start new view.number o.body) (told_committed tx now.epoch)
                (takeover_row between.takeover x).effects.sends
                (takeover_answered start all e es follows member there at passed to) now.there))

            row_tells : IsPassed start.shape (part.Tc between) view x → (b : BlockId) → x.to.block ≡ b
                → TellsAll O S (tc_row between b x).state.takeover
            unfolding tc_row
            row_tells passed block.Takeover to =
                tells_more O (SaidBy O S (takeover_row between.takeover x).effects.sends) S
                (λ tx is. said_seen passed to tx is) (takeover_row between.takeover x).state (row passed to).state
            row_tells passed block.Tc to = i.tells
            row_tells passed block.Dih to = i.tells
            row_tells passed _ to = i.tells

            own_tells : PartTakes tc_kind start.shape between view x own_step.does.own own_step.does.rest
                → TellsAll O S own_step.does.own.takeover
            own_tells (ignores same none) = subst (λ (q : TcPart). TellsAll O S q.takeover) (sym same) i.tells
            own_tells (handles passed same is) =
                subst (λ (q : TcPart). TellsAll O S q.takeover) (sym same) (row_tells passed x.to.block refl)

            tells_here : TellsAll O S (takeover_after start member (e ∷ log))
            tells_here =
                subst (TellsAll O S)
                (sym (takeover_is start member e.host (e ∷ log) at own_step.does.own own_step.does.is))
                (own_tells own_step.does.takes)

            row_all : IsPassed start.shape (part.Tc between) view x → x.to.block ≡ block.Takeover
                → IsIn told_complete (takeover_row between.takeover x).effects.sends → AreSeenTo start new
            row_all passed to complete =
                each_in (λ (o : Outgoing). IsLast O S o.body) told_complete
                (takeover_row between.takeover x).effects.sends (row passed to).sends complete

        all_seen : Each (λ (o : Outgoing). o.body ≡ Takeover TakeoverEnd → view.number ≡ current_number start new
            → AreSeenTo start new) (step_after start e.host log e).effects.sends
        all_seen =
            sends_over start e.host log e own_step (view.number ≡ current_number start new → AreSeenTo start new)
            (λ passed to.
            each_map (IsBeside (takeover_row between.takeover x).effects.sends)
            (λ (o : Outgoing). o.body ≡ Takeover TakeoverEnd → view.number ≡ current_number start new
            → AreSeenTo start new) (takeover_row between.takeover x).effects.sends
            (λ o beside is stands. row_all stands passed to (beside is)) (takeover_together between.takeover x))

      work_next : number_in start new h ≡ current_number start new → TellsAll O S (takeover_at start new member)
      work_next =
          event_cases (machine start) e es h
          (λ l. (view_after start h l).number ≡ current_number start new → TellsAll O S (takeover_after start member l))
          (λ at stands.
          subst (λ k. TellsAll O S (takeover_after start member (e ∷ old k))) at
          (tells_here at
          (subst (λ k. (view_after start k (e ∷ old k)).number ≡ current_number start new) (sym at) stands)))
          (λ other stands. was_tells (stood_still start all e es moment member there (number_in start old h) stands
          (omega arith)))

      abbrev Told : Addressed → Type 0
      Told y =
          y.signal.body ≡ Takeover TakeoverEnd → y.signal.view.number ≡ current_number start (logs_of start (e ∷ es))
          → AreSeenTo start (logs_of start (e ∷ es))

      old_over : (j : ℕ) → Each Told (sent n h j (old h))
      old_over j =
          each_from Told (sent n h j (old h))
          (λ y inside body number.
          let low =
          each_in (λ (z : Addressed). z.signal.view.number ≤ current_number start old) y (sent n h j (old h))
          (sent_below start all es less h j) inside in
          let rises = current_rises start all e es moment in
          let one = old_current start all e es moment (omega (arith, low, rises, number)) in
          let same_number : current_number start new ≡ current_number start old = ap (λ (v : View). v.number) one in
          seen_all one
          (each_in (λ (z : Addressed). z.signal.body ≡ Takeover TakeoverEnd
          → z.signal.view.number ≡ current_number start old → AreSeenTo start old) y (sent n h j (old h))
          (was.over member there j) inside body (number ∙ same_number)))

      over_next : (j : ℕ) → Each Told (sent n h j (new h))
      over_next j =
          event_cases (machine start) e es h (λ l. Each Told (sent n h j l))
          (λ at. put_each n Told j (sent_by n h (old h) e) (sent n h j (old h)) (now at) (old_over j))
          (λ other. old_over j)
        where
          now : (at : e.host ≡ h) → Each Told (sent_by n h (old h) e)
          now at =
              subst (λ k. Each Told (sent_by n k (old k) e)) at
              (sent_by_each n Told e.host (old e.host) e
              (λ goes.
              sent_so start e.host (old e.host) e
              (λ (v : View) (to : Place) (body : Body).
              body ≡ Takeover TakeoverEnd → v.number ≡ current_number start new → AreSeenTo start new) (all_seen at)))

    sees_next : SeesToAll start old → SeesToAll start new
    sees_next was = record {
      work = λ member there stands. work_next was member there stands;
      over = λ member there j. over_next was member there j;
    }

-- at first no takeover is at work
sees_first : (start : Start) → NobodyStarts start → SeesToAll start (logs_of start [])
sees_first start nobody = record {
  work = λ member there stands.
      subst (TellsAll (IsOrphan (current start (logs_of start []))) (IsSeenTo start (logs_of start [])))
      (sym (ap (λ (s : node.HostBody). takeover_in (resting member.node (first_layout start.shape)) s.parts)
      (tc_started start nobody member there)))
      (record { attended = tt; first = tt });
  over = λ member there j. tt;
}

sees_to_all : (start : Start) (all : ℕ → List HostStep) (es : List HostStep) → IsMoment start all es
    → SeesToAll start (logs_of start es)
sees_to_all start all [] moment = sees_first start moment.cluster.nobody
sees_to_all start all (e ∷ es) moment =
    sees_next start all e es moment (sees_to_all start all es (moment_less start all e es moment))

-- so it is once one is over
all_seen_to : (start : Start) (all : ℕ → List HostStep) (es : List HostStep) → IsMoment start all es
    → (member : Member) → IsIn member (made start) → IsOver start (logs_of start es) member
    → AreSeenTo start (logs_of start es)
all_seen_to start all es moment member there over =
    given_so m (sound_closes start) Told (tc_of start member) (main_of start member)
    (logs_of start es (tc_of start member)) (taken m (tc_of start member) (logs_of start es (main_of start member)))
    ((sees_to_all start all es moment).over member there (main_of start member))
    ((logs_of_run m es moment.run).linked (tc_of start member) (main_of start member)) over.signal over.there
    (not_closed over.signal.signal.body (ap is_host over.body)) over.body over.number
  where
    m : Machine HostStep Addressed
    m = sound_machine start

    Told : Addressed → Type 0
    Told = λ y. y.signal.body ≡ Takeover TakeoverEnd
        → y.signal.view.number ≡ current_number start (logs_of start es) → AreSeenTo start (logs_of start es)

pub over_is_done : OverIsDone
over_is_done start all es moment member there over tx orphan fated =
    seen_done start (logs_of start es) (all_stand start all es moment).commits tx orphan fated
    (all_seen_to start all es moment member there over tx orphan)

-- and nobody is left
pub over_leaves : OverLeavesNone
over_leaves = over_leaves_none over_is_done
