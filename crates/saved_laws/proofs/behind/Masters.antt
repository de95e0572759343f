-- Behind an event the president's master of the current view has begun nothing before all that was saved is durable.
use Rattle.std.proofs.Common.{◌++◌, ◌<◌, ◌∙◌, ◌∷◌, ◌≡◌, ◌≤◌, ◌⊎◌, List, ap, arith, inl, inr, subst, sym}
use Rattle.std.proofs.Common.{ℕ}
use Rattle.run_theory.proofs.Pasts.{each_from, each_in, in_append}
use Rattle.run_theory.specs.Lists.{IsIn}
use Rattle.sig_core.specs.Step.{Step}
use Rattle.sig_core.specs.declared.mark.Mark.{Mark}
use Rattle.sig_core.specs.declared.mark.Mark.TheVariants.{Durable}
use Rattle.sig_core.specs.declared.member.Member.{Member}
use Rattle.sig_core.specs.declared.place.BlockId.TheVariants.{GcpMaster}
use Rattle.sig_core.specs.declared.place.BlockId.TheVariants as block
use Rattle.sig_core.specs.declared.place.Part.TheVariants.{Main}
use Rattle.sig_core.specs.declared.signal.Signal.{Signal}
use Rattle.sig_core.specs.declared.view.View.{View}
use Rattle.dih_node.specs.State.{DihState}
use Rattle.gcp_master.proofs.Outcomes.{known_with, state_body, voice_of}
use Rattle.gcp_master.specs.Master.{master_row}
use Rattle.gcp_master.specs.Resume.{in_view}
use Rattle.gcp_master.specs.State.{MasterState}
use Rattle.gcp_master.specs.Voices.{is_among}
use Rattle.gcp_master.specs.declared.known.Known.{Known}
use Rattle.gcp_master.specs.declared.known.Told.{Told}
use Rattle.gcp_master.specs.declared.phase.Phase.{Phase}
use Rattle.gcp_master.specs.declared.phase.Phase.TheVariants.{Closing, Copying, Gathering, Saving, Unordered}
use Rattle.gcp_master.specs.declared.phase.Run.{Run}
use Rattle.node_views.specs.Parts.{main_row}
use Rattle.node_views.specs.declared.host_body.HostBody.{HostBody}
use Rattle.node_views.specs.declared.host_body.HostBody as node
use Rattle.node_views.specs.declared.main_part.MainPart.{MainPart}
use Rattle.node_views.specs.declared.parts.Parts.TheVariants as part
use Rattle.world_core.specs.Start.{Start, made}
use Rattle.world_core.specs.Steps.{Addressed, HostStep}
use Rattle.world_views.proofs.WorldLemmas.{under_way}
use Rattle.world_views.specs.Machine.{after, step_after}
use Rattle.view_laws.specs.Runs.{view_after}
use Rattle.view_laws.specs.Votes.{main_of}
use Rattle.moment_laws.proofs.MomentHosts.{ldm_number, main_number, part_some}
use Rattle.moment_laws.proofs.MomentMembers.{current_made}
use Rattle.moment_laws.proofs.MomentTurns.{host_low, own_log}
use Rattle.moment_laws.proofs.MomentViews.{moment_less}
use Rattle.moment_laws.proofs.PartTaken.{IsTakenNow}
use Rattle.moment_laws.specs.Moments.{IsMoment, current, logs_of}
use Rattle.epoch_laws.proofs.DihMoves.{Stays}
use Rattle.epoch_laws.proofs.MasterKeeps.{IsBefore}
use Rattle.epoch_laws.proofs.MasterMoves.{IsLate}
use Rattle.epoch_laws.proofs.MasterRows.{master_goes}
use Rattle.epoch_laws.proofs.MasterSpeaks.{installed}
use Rattle.epoch_laws.proofs.MomentEvents.{EpochsDo, MasterDoes, enters, enters_takes, epochs_do, installs, leave}
use Rattle.epoch_laws.proofs.MomentEvents.{master_does, take, takes, unmoved}
use Rattle.epoch_laws.proofs.StandKinds.{RunsMain, main_at, master_at}
use Rattle.epoch_laws.proofs.StandMarks.{full_before, marks_are}
use Rattle.epoch_laws.proofs.StandMasters.{Stood, before_it, first_inside, first_same, master_view, not_tc, rose}
use Rattle.epoch_laws.proofs.StandMasters.{stood, stood_by}
use Rattle.epoch_laws.proofs.StandTakes.{Carries, carries, commits, prepares, stay, taken_true}
use Rattle.epoch_laws.specs.Alike.{EachFull}
use Rattle.epoch_laws.specs.Masters.{Commits, Prepares}
use Rattle.epoch_laws.specs.Members.{IsFirst, IsPresident, IsStanding, epochs_of, master_of}
use Rattle.epoch_laws.specs.Stand.{AllStand}
use Rattle.epoch_laws.specs.Told.{IsOrdered}
use Rattle.outcome_laws.specs.Decided.{IsMarked}
use Rattle.closing_laws.proofs.closers.MainSteps.{Entering, Goes, Left, main_goes}
use Rattle.closing_laws.proofs.closers.MainSteps as goes
use Rattle.saved_laws.proofs.behind.Durable.{knows_more}
use Rattle.saved_laws.proofs.behind.MasterSteps.{master_behind}
use Rattle.saved_laws.proofs.behind.Phases.{SaveIn, StayIn, phase_next}
use Rattle.saved_laws.proofs.behind.Reached.{saved_reached}
use Rattle.saved_laws.proofs.behind.Rows.{rows_do}
use Rattle.saved_laws.proofs.behind.Rows as saving
use Rattle.saved_laws.proofs.behind.Saves.{SavesNow, saves_do, saving_of}
use Rattle.saved_laws.proofs.behind.Statement.{AllBehind, AllDurable, IsBehind, IsLastOrder, KnowsDurable, KnowsIn}
use Rattle.saved_laws.proofs.behind.Statement.{saved_at}
use Rattle.saved_laws.proofs.masters.Hosts.{node_parts}
use Rattle.saved_laws.proofs.masters.Orders.{Saves}
use Rattle.saved_laws.specs.Behind.{IsDurable}

-- no order to prepare or to commit is under way in a late phase
late_orders : (run : Run) (phase : Phase) → IsLate run phase → (epoch next : ℕ)
    → Prepares epoch next phase ⊎ Commits epoch next phase → ⊥
late_orders run (Closing other) late epoch next (inl is) = is
late_orders run (Closing other) late epoch next (inr is) = is
late_orders run (Saving other) late epoch next (inl is) = is
late_orders run (Saving other) late epoch next (inr is) = is
late_orders run (Copying other) late epoch next (inl is) = is
late_orders run (Copying other) late epoch next (inr is) = is
late_orders run _ late epoch next is = absurd late

module _ (start : Start) (all : ℕ → List HostStep) (e : HostStep) (es : List HostStep)
    (some : start.start_epoch < start.epoch) (moment : IsMoment start all (e ∷ es))
    (stand : AllStand start (logs_of start es)) (behind : AllBehind start (logs_of start es))
  where
    abbrev old : ℕ → List HostStep
    old = logs_of start es

    abbrev new : ℕ → List HostStep
    new = logs_of start (e ∷ es)

    abbrev x : Signal
    x = e.step.taken

    abbrev it : Addressed
    it = record { to = e.host; signal = x }

    abbrev step : Step node.HostBody
    step = step_after start e.host (old e.host) e

    less : IsMoment start all es
    less = moment_less start all e es moment

    module _ (p : Member) (there : IsIn p (made start)) where
      abbrev h : ℕ
      h = main_of start p

      abbrev was : MasterState
      was = master_of start old p

      abbrev IsSo : MasterState → Type 0
      IsSo s = IsBehind start new s.phase

      in_none : (s : MasterState) (view : View) → IsSo (in_view s view)
      in_none s view = subst (IsBehind start new) (sym (installed s view).phase) tt

      -- it was the president before
      record WasPresident : Type 0 where
        first : IsPresident start old p
        stands : IsStanding start old p
        view : current start new ≡ current start old

      module _ (first : IsPresident start new p) (stands : IsStanding start new p) where
        was_president : (master_of start new p).view ≡ was.view → WasPresident
        was_president same = by (stood_by start all e es moment stand p there stands)
          where
            number_same : (view_after start (main_of start p) (new (main_of start p))).number
                ≡ (view_after start (main_of start p) (old (main_of start p))).number
            number_same =
                ap (λ (v : View). v.number)
                (sym (master_view start moment.cluster.nobody p there new) ∙ same
                ∙ master_view start moment.cluster.nobody p there old)

            by : Stood start all e es moment stand p there → WasPresident
            by (rose up) = let is = number_same in absurd (omega (arith, up, is))
            by (stood stands view) = record {
              first = subst (λ (v : View). IsFirst p v.full) view first;
              stands = stands;
              view = view;
            }

        -- a master that stays
        module _ (is : master_of start new p ≡ was) where
          before : WasPresident
          before = was_president (ap (λ (s : MasterState). s.view) is)

          rows : SaveIn start all e es moment was.phase
          rows member there_too = by (saves_do start all e es moment behind member there_too)
            where
              by : (saved_at start new member ≡ saved_at start old member)
                  ⊎ SavesNow start all e es moment behind member there_too
                  → (saved_at start new member ≡ saved_at start old member)
                  ⊎ Saves (saved_at start new member) was.phase
              by (inl same) = inl same
              by (inr saves) = inr (saving_of start all e es moment behind member there_too saves p before.first)

          last : StayIn start all e es moment was.phase
          last run late each = by (carries start all e es moment stand)
            where
              full_last : ((full : Member) → IsIn full (current start old).full
                  → (epochs_of start new full).prepared ≤ run.epoch)
                  → IsLastOrder start new run.epoch
              full_last one =
                  each_from (λ (m : Member). (epochs_of start new m).prepared ≤ run.epoch) (current start new).full
                  (λ full inside. one full (full_before start all e es moment stand full inside))

              one_last : (full : Member) → IsIn full (current start old).full
                  → (epochs_of start old full).prepared ≤ run.epoch
              one_last full inside =
                  each_in (λ (m : Member). (epochs_of start old m).prepared ≤ run.epoch) full (current start old).full
                  each inside

              -- the president has ordered something else
              ordered : (epoch next : ℕ) (m : Member) → IsIn m (current start old).full → epoch < next
                  → (epochs_of start old m).current ≤ epoch
                  → IsOrdered start old next (λ phase. Prepares epoch next phase ⊎ Commits epoch next phase) → ⊥
              ordered epoch next m inside rises low order = far order.far
                where
                  same : order.president ≡ p
                  same = first_same order.president p (current start old).full order.is before.first

                  far : (Prepares epoch next (master_of start old order.president).phase
                      ⊎ Commits epoch next (master_of start old order.president).phase)
                      ⊎ EachFull start old (λ (s : DihState). next ≤ s.current) → ⊥
                  far (inl under_way) =
                      late_orders run was.phase late epoch next
                      (subst
                      (λ (m : Member). Prepares epoch next (master_of start old m).phase
                      ⊎ Commits epoch next (master_of start old m).phase)
                      same under_way)
                  far (inr beyond) =
                      let up : next ≤ (epochs_of start old m).current =
                      each_in (λ (m : Member). next ≤ (epochs_of start old m).current) m (current start old).full beyond
                      inside in
                      absurd (omega (arith, up, rises, low))

              widely : (epoch next : ℕ) → IsOrdered start old next (Commits epoch next)
                  → IsOrdered start old next (λ phase. Prepares epoch next phase ⊎ Commits epoch next phase)
              widely epoch next order = record {
                president = order.president;
                is = order.is;
                stands = order.stands;
                speaks = order.speaks;
                far = far order.far;
              }
                where
                  far : Commits epoch next (master_of start old order.president).phase
                      ⊎ EachFull start old (λ (s : DihState). next ≤ s.current)
                      → (Prepares epoch next (master_of start old order.president).phase
                      ⊎ Commits epoch next (master_of start old order.president).phase)
                      ⊎ EachFull start old (λ (s : DihState). next ≤ s.current)
                  far (inl is) = inl (inr is)
                  far (inr beyond) = inr beyond

              by : Carries start all e es moment stand → IsLastOrder start new run.epoch
              by (stay stays) =
                  full_last
                  (λ full inside. subst (λ n. n ≤ run.epoch) (sym (stays full).prepared_is) (one_last full inside))
              by (prepares m at inside view epoch next rises order low goes) =
                  absurd (ordered epoch next m inside rises low order)
              by (commits m at inside view epoch next rises order low goes) =
                  absurd (ordered epoch next m inside rises low (widely epoch next order))

          stays_behind : IsSo (master_of start new p)
          stays_behind =
              subst IsSo (sym is)
              (phase_next start all e es moment was.phase rows last
              (behind.president p before.first before.stands))

        -- a master that takes the signal
        module _ (durable : AllDurable start old) (at : e.host ≡ main_of start p)
            (taken : IsTakenNow start all e es moment block.GcpMaster)
          where
            host_some : 1 ≤ e.host
            host_some = subst (λ h. 1 ≤ h) (sym at) (part_some start Main p)

            runs_old : RunsMain start (after start e.host (old e.host)).parts
            runs_old = main_at start moment.cluster.nobody p there e.host at (old e.host)

            master_old : was ≡ runs_old.main.master
            master_old = master_at start old p e.host at (part.Main runs_old.main) runs_old.is

            master_new : (now : MainPart) → step.state.parts ≡ part.Main now
                → master_of start new p ≡ now.master
            master_new now is =
                master_at start new p e.host at (part.Main now)
                (ap (λ log. (after start e.host log).parts) (own_log start all e es moment)
                ∙ node_parts start e.host host_some (old e.host) e ∙ is)

            between_is : (between : MainPart) (seen : View)
                → Entering runs_old.main (view_after start e.host (old e.host)) x between seen
                → (between.master ≡ was) ⊎ (between.master.phase ≡ Unordered)
            between_is between seen (goes.remains same stands) =
                inl (ap (λ (q : MainPart). q.master) same ∙ sym master_old)
            between_is between seen (goes.enters above same stands) =
                inr (ap (λ (q : MainPart). q.master.phase) same ∙ (installed runs_old.main.master x.view).phase)

            kept : (member : Member) → IsIn member (made start)
                → saved_at start new member ≡ saved_at start old member
            kept member there_too = by (rows_do start all e es moment member there_too)
              where
                by : (saved_at start new member ≡ saved_at start old member)
                    ⊎ saving.IsOrdered start all e es moment member there_too (saved_at start new member)
                    → saved_at start new member ≡ saved_at start old member
                by (inl same) = same
                by (inr ordered) =
                    let one = main_number start moment.cluster.nobody p there in
                    let other = ldm_number start moment.cluster.nobody member there_too in
                    let own = ordered.at in
                    absurd (omega (arith, at, own, one, other))

            epochs_stay : (member : Member) → Stays (epochs_of start old member) (epochs_of start new member)
            epochs_stay member = by (epochs_do start all e es moment member)
              where
                by : EpochsDo start all e es moment member
                    → Stays (epochs_of start old member) (epochs_of start new member)
                by (leave stays sound) = stays
                by (take at_too taken moves sound) =
                    absurd (not_tc start all e es moment stand p there at member at_too)

            marked : (marks : List Mark) (front : List Mark) → step.effects.marks ≡ front ++ marks → (epoch : ℕ)
                → IsIn (Durable epoch) marks → IsDurable start new epoch
            marked marks front is epoch inside = inr (record {
              host = e.host;
              below = host_low start all e es moment;
              at = epoch;
              marked =
                  subst (IsMarked (Durable epoch)) (sym (own_log start all e es moment))
                  (inl (subst (IsIn (Durable epoch)) (sym (marks_are start all e es moment stand ∙ is))
                  (in_append (Durable epoch) front marks inside)));
              least = omega arith;
            })

            row : (s : MasterState) → (s ≡ was) ⊎ (s.phase ≡ Unordered)
                → master_of start new p ≡ (master_row s x).state
                → ((epoch : ℕ) → IsIn (Durable epoch) (master_row s x).effects.marks → IsDurable start new epoch)
                → IsSo (master_row s x).state
            row s which is =
                master_behind start all e es moment stand behind (saved_reached start all es some less) kept epochs_stay
                s (stood_before which) (was_behind which)
                (taken_true start all e es moment stand block.GcpMaster taken) (learns which)
              where
                president : s ≡ was → WasPresident
                president same =
                    was_president
                    (ap (λ (s : MasterState). s.view) is ∙ (master_goes s x).view
                    ∙ ap (λ (s : MasterState). s.view) same)

                stood_before : (s ≡ was) ⊎ (s.phase ≡ Unordered) → (s.phase ≡ Unordered) ⊎ IsBefore start old s
                stood_before (inl same) =
                    let before = president same in
                    inr (subst (IsBefore start old) (sym same)
                    (before_it start all e es moment stand p there first before.stands before.view))
                stood_before (inr idle) = inl idle

                was_behind : (s ≡ was) ⊎ (s.phase ≡ Unordered) → IsBehind start old s.phase
                was_behind (inl same) =
                    let before = president same in
                    subst (λ (s : MasterState). IsBehind start old s.phase) (sym same)
                    (behind.president p before.first before.stands)
                was_behind (inr idle) = subst (IsBehind start old) (sym idle) tt

                learns : (s ≡ was) ⊎ (s.phase ≡ Unordered) → (t : Told) → x.body ≡ state_body t → (known : Known)
                    → s.phase ≡ Gathering known → KnowsDurable start old (known_with s (voice_of x) known t)
                learns (inl same) t body known phase =
                    knows_more start all e es some moment durable taken.sound known t body
                    (subst (KnowsIn start old) (ap (λ (s : MasterState). s.phase) (sym same) ∙ phase)
                    (durable.masters p there))
                    (is_among s.view.full x.member)
                learns (inr idle) t body known phase =
                    let differ : Unordered ≡ Gathering known = sym idle ∙ phase in absurd cc

            row_is : (between : MainPart)
                → step.state.parts ≡ part.Main (main_row between block.GcpMaster x).state
                → master_of start new p ≡ (master_row between.master x).state
            unfolding main_row
            row_is between parts = master_new (main_row between block.GcpMaster x).state parts

            takes_behind : IsSo (master_of start new p)
            takes_behind = by (main_goes start moment.cluster.nobody e.host (old e.host) e runs_old.main runs_old.is)
              where
                left : (now : MainPart) → step.state.parts ≡ part.Main now → Left runs_old.main.master now.master
                    → IsSo (master_of start new p)
                left now parts (goes.stays is) = stays_behind (master_new now parts ∙ is ∙ sym master_old)
                left now parts (goes.installs t view is) =
                    subst IsSo (sym (master_new now parts ∙ is)) (in_none t view)

                by : Goes start.shape runs_old.main (view_after start e.host (old e.host)) x step
                    → IsSo (master_of start new p)
                by (goes.leaves now parts is none) = left now parts is
                by (goes.takes between seen entering passed to parts stands front none marks) =
                    let is = row_is between parts in
                    subst IsSo (sym is)
                    (row between.master (between_is between seen entering) is
                    (marked (master_row between.master x).effects.marks front marks))

        pub masters_behind : AllDurable start old → IsSo (master_of start new p)
        masters_behind durable = by (master_does start all e es moment p)
          where
            by : MasterDoes start all e es moment p → IsSo (master_of start new p)
            by (unmoved is) = stays_behind is
            by (installs at up between is) = subst IsSo (sym is) (in_none between _)
            by (enters at up is) = subst IsSo (sym is) (in_none was x.view)
            by (takes at taken is) = takes_behind durable at taken
            by (enters_takes at up taken is) = takes_behind durable at taken

    -- so it is of the president of the current view
    pub presidents_next : AllDurable start old → (p : Member) → IsPresident start new p → IsStanding start new p
        → IsBehind start new (master_of start new p).phase
    presidents_next durable p first stands =
        masters_behind p
        (current_made start all (e ∷ es) moment p (first_inside p (current start new).full first)) first stands durable
