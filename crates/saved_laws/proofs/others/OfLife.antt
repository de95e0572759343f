-- What was closed is of the life, or was so before it began; so what is saved is, beyond the epoch from which it
-- started. Members give no epoch before the first of the life, and take no order for one; and where an epoch is closed,
-- the order for it is the last that each full member has taken.
use Rattle.std.proofs.Common.{◌≡◌, ◌≤◌, ◌<◌, ◌⊎◌, ◌∙◌, ℕ, Bool, true, false, List, [], ◌∷◌, refl, sym, ap, subst}
use Rattle.std.proofs.Common.{inl, inr, arith}
use Rattle.run_theory.proofs.Pasts.{each_in}
use Rattle.run_theory.specs.Lists.{IsIn}
use Rattle.sig_core.specs.declared.mark.Mark.TheVariants.{Closed}
use Rattle.sig_core.specs.declared.member.Member.{Member}
use Rattle.sig_core.specs.declared.signal.Signal.{Signal}
use Rattle.sig_core.specs.declared.view.View.{View}
use Rattle.dih_node.specs.Dih.{fresh_dih}
use Rattle.dih_node.specs.State.{DihState}
use Rattle.gcp_master.specs.declared.phase.Phase.TheVariants.{Committing, Unordered}
use Rattle.gcp_master.specs.declared.phase.Run.{Run}
use Rattle.gcp_master.specs.Master.{master_row}
use Rattle.gcp_master.specs.State.{MasterState}
use Rattle.gcp_master.specs.Voices.{same_member}
use Rattle.gcp_master.proofs.Outcomes.{voice_of}
use Rattle.lqh_views.specs.State.{ReplicaState}
use Rattle.node_views.specs.declared.host_body.HostBody as node
use Rattle.node_views.specs.declared.main_part.MainPart.{MainPart}
use Rattle.node_views.specs.declared.parts.Parts.TheVariants as part
use Rattle.world_core.specs.Start.{NobodyStarts, Start, made}
use Rattle.world_core.specs.Steps.{HostStep}
use Rattle.world_views.specs.Machine.{after, step_after}
use Rattle.view_laws.specs.Runs.{view_after}
use Rattle.view_laws.specs.Votes.{main_of}
use Rattle.view_laws.proofs.ballots.MadeSets.{in_either}
use Rattle.view_laws.proofs.eras.Deciders.{told_view}
use Rattle.moment_laws.specs.Moments.{IsMoment, current, logs_of}
use Rattle.moment_laws.specs.Places.{ldm_of, tc_of}
use Rattle.moment_laws.proofs.MomentHosts.{main_low, tc_started}
use Rattle.moment_laws.proofs.MomentMembers.{current_made}
use Rattle.moment_laws.proofs.MomentTurns.{current_rises, own_behind}
use Rattle.moment_laws.proofs.MomentViews.{current_above, moment_less, number_in}
use Rattle.outcome_laws.proofs.order.EventsBefore.{moment_before}
use Rattle.request_laws.proofs.replicas.AlongLogs.{always}
use Rattle.request_laws.specs.Blocks.{rows_after}
use Rattle.epoch_laws.specs.Alike.{IsAcross}
use Rattle.epoch_laws.specs.Masters.{IsRightIn}
use Rattle.epoch_laws.specs.Members.{IsFirst, IsPresident, IsStanding, dih_in, epochs_of, master_of}
use Rattle.epoch_laws.specs.Stand.{AllStand}
use Rattle.epoch_laws.proofs.MasterHears.{same_member-is, same_member-self}
use Rattle.epoch_laws.proofs.MasterSpeaks.{installed}
use Rattle.epoch_laws.proofs.StandAll.{epochs_stand}
use Rattle.epoch_laws.proofs.StandKinds.{RunsMain, main_at, master_at}
use Rattle.epoch_laws.proofs.StandMarks.{marks_are}
use Rattle.epoch_laws.proofs.StandMasters.{first_inside}
use Rattle.epoch_laws.proofs.StandTakes.{Carries, carries, commits, others_same, prepares, stay}
use Rattle.closing_laws.specs.Closed.{IsClosing}
use Rattle.closing_laws.proofs.closers.Hear.{closers_have_heard_all, first_or}
use Rattle.closing_laws.proofs.closers.MainSteps.{Entering, Goes, enters, leaves, main_goes, remains, takes}
use Rattle.closing_laws.proofs.closers.Marks.{ClosesRun, IsMarkOf, master_marks}
use Rattle.closing_laws.proofs.closers.NoClosings.{not_among}
use Rattle.closing_laws.proofs.durable.BehindClosed.{all_reached}
use Rattle.closing_laws.proofs.durable.Masters.{IsRunReached}
use Rattle.closing_laws.proofs.durable.Reached.{HasReached}
use Rattle.commit_laws.specs.Traces.{rows_at}
use Rattle.journal_laws.proofs.events.ReplicaEvents.{saved_rises}
use Rattle.saved_laws.specs.Checkpoints.{SavedAreOfLife}
use Rattle.saved_laws.specs.Closings.{WasFullAtClosing}
use Rattle.saved_laws.proofs.masters.Closed.{saved_were_closed}

module _ (start : Start) where
  -- the epoch is of the life, or isn't beyond the one from which it started
  abbrev IsOfLife : ℕ → Type 0
  IsOfLife epoch = (epoch ≤ start.start_epoch) ⊎ (start.epoch ≤ epoch)

  -- so are the epoch that a member gives, and that of the last order which it took
  record GivesOfLife (s : DihState) : Type 0 where
    gives : start.epoch ≤ s.current
    ordered : IsOfLife s.prepared

  abbrev AllGive : (ℕ → List HostStep) → Type 0
  AllGive logs = (m : Member) → IsIn m (made start) → GivesOfLife (epochs_of start logs m)

  first_give : NobodyStarts start → start.start_epoch < start.epoch → AllGive (logs_of start [])
  first_give nobody some m there =
      subst (λ (s : node.HostBody). GivesOfLife (dih_in (fresh_dih 0 0 0 0) s.parts))
      (sym (tc_started start nobody m there))
      (record { gives = omega arith; ordered = inl (omega arith) })

  module _ (all : ℕ → List HostStep) (e : HostStep) (es : List HostStep) (some : start.start_epoch < start.epoch)
      (moment : IsMoment start all (e ∷ es)) where
    abbrev old : ℕ → List HostStep
    old = logs_of start es

    abbrev new : ℕ → List HostStep
    new = logs_of start (e ∷ es)

    less : IsMoment start all es
    less = moment_less start all e es moment

    stand : AllStand start (logs_of start es)
    stand = epochs_stand start all es some less

    module _ (was : AllGive (logs_of start es)) where
      -- where one member moves
      moved : (m : Member) → e.host ≡ tc_of start m → GivesOfLife (epochs_of start new m)
          → AllGive (logs_of start (e ∷ es))
      moved m at now k there = by (same_member k m) refl
        where
          by : (b : Bool) → same_member k m ≡ b → GivesOfLife (epochs_of start new k)
          by true is = subst (λ (j : Member). GivesOfLife (epochs_of start new j)) (sym (same_member-is k m is)) now
          by false is =
              subst GivesOfLife
              (others_same start all e es moment stand m at k
              (λ same. absurd (let both : true ≡ false = sym (same_member-self k m same) ∙ is in cc)))
              (was k there)

      full_made : (m : Member) → IsIn m (current start old).full → IsIn m (made start)
      full_made = current_made start all es less

      next_give : AllGive (logs_of start (e ∷ es))
      next_give = by (carries start all e es moment stand)
        where
          by : Carries start all e es moment stand → AllGive (logs_of start (e ∷ es))
          by (stay stays) = λ k there. record {
            gives = subst (λ n. start.epoch ≤ n) (sym (stays k).current_is) (was k there).gives;
            ordered = subst IsOfLife (sym (stays k).prepared_is) (was k there).ordered;
          }
          by (prepares m at inside same epoch next rises order late goes) =
              let gave = (was m (full_made m inside)).gives in
              moved m at (record {
                gives = subst (λ n. start.epoch ≤ n) (sym goes.current_is) gave;
                ordered = subst IsOfLife (sym goes.prepared_is) (inr (omega (arith, gave, late)));
              })
          by (commits m at inside same epoch next rises order late goes) =
              let gave = (was m (full_made m inside)).gives in
              moved m at (record {
                gives = subst (λ n. start.epoch ≤ n) (sym goes.current_is) (omega (arith, gave, late, rises));
                ordered = subst IsOfLife (sym goes.prepared_is) (inr (omega (arith, gave, late)));
              })

    -- where an epoch is closed
    module _ (epoch : ℕ) (marked : IsIn (Closed epoch) e.step.marks) where
      closing : IsClosing start e (logs_of start (e ∷ es)) epoch
      closing = closers_have_heard_all start all e es some moment epoch marked

      abbrev me : Member
      me = closing.member

      abbrev h : ℕ
      h = main_of start me

      abbrev x : Signal
      x = e.step.taken

      there : IsIn me (made start)
      there =
          current_made start all (e ∷ es) moment me (first_inside me (current start new).full closing.is.president)

      main_runs : RunsMain start (after start e.host (old e.host)).parts
      main_runs = main_at start moment.cluster.nobody me there e.host closing.is.host_is (old e.host)

      abbrev p : MainPart
      p = main_runs.main

      master_is : master_of start old me ≡ p.master
      master_is = master_at start old me e.host closing.is.host_is (part.Main p) main_runs.is

      -- its master was about to, in the view in which its host stands
      record ClosesHere : Type 0 where
        closes : ClosesRun p.master (voice_of x) x.body epoch
        stays : view_after start e.host (e ∷ old e.host) ≡ view_after start e.host (old e.host)

      of_row : (between : MainPart) (seen : View) → Entering p (view_after start e.host (old e.host)) x between seen
          → (step_after start e.host (old e.host) e).state.standing.view ≡ seen
          → ClosesRun between.master (voice_of x) x.body epoch → ClosesHere
      of_row between seen (remains same stands) stood closes = record {
        closes = subst (λ (q : MainPart). ClosesRun q.master (voice_of x) x.body epoch) same closes;
        stays = told_view e.host (step_after start e.host (old e.host) e) ∙ stood ∙ stands;
      }
      of_row between seen (enters above same stands) stood closes =
          let none : Unordered ≡ Committing closes.run =
          sym (installed p.master x.view).phase ∙ ap (λ (q : MainPart). q.master.phase) (sym same) ∙ closes.phase in
          absurd cc

      closes_here : ClosesHere
      closes_here = by (main_goes start moment.cluster.nobody e.host (old e.host) e p main_runs.is)
        where
          inside : IsIn (Closed epoch) (step_after start e.host (old e.host) e).effects.marks
          inside = subst (IsIn (Closed epoch)) (marks_are start all e es moment stand) marked

          by : Goes start.shape p (view_after start e.host (old e.host)) x (step_after start e.host (old e.host) e)
              → ClosesHere
          by (leaves now parts left none) = absurd (not_among (Closed epoch) refl _ none inside)
          by (takes between seen entering passed to parts stood front none marks) =
              either (in_either (Closed epoch) front (master_row between.master x).effects.marks
              (subst (IsIn (Closed epoch)) marks inside))
            where
              either : IsIn (Closed epoch) front ⊎ IsIn (Closed epoch) (master_row between.master x).effects.marks
                  → ClosesHere
              either (inl early) = absurd (not_among (Closed epoch) refl front none early)
              either (inr row) =
                  of_row between seen entering stood
                  (each_in (IsMarkOf between.master (voice_of x) x.body) (Closed epoch)
                  (master_row between.master x).effects.marks (master_marks between.master x) row)

      abbrev run : Run
      run = closes_here.closes.run

      phase_old : (master_of start old me).phase ≡ Committing run
      phase_old = ap (λ (s : MasterState). s.phase) master_is ∙ closes_here.closes.phase

      -- so it was the master of the view that was current before
      stood_old : IsStanding start old me
      stood_old =
          let same : number_in start (logs_of start (e ∷ es)) h ≡ number_in start (logs_of start es) h =
          subst (λ k. number_in start (logs_of start (e ∷ es)) k ≡ number_in start (logs_of start es) k)
          closing.is.host_is
          (ap (λ (v : View). v.number) (own_behind start all e es moment ∙ closes_here.stays)) in
          let above = current_above start old moment.cluster.nobody h (main_low start moment.cluster.nobody me there) in
          let rises = current_rises start all e es moment in
          let stands : number_in start (logs_of start (e ∷ es)) h ≡ (current start new).number = closing.is.stands in
          omega (arith, same, above, rises, stands)

      president_old : IsPresident start old me
      president_old = by (first_or me (current start old).full)
        where
          by : IsFirst me (current start old).full ⊎ (IsFirst me (current start old).full → ⊥)
              → IsFirst me (current start old).full
          by (inl first) = first
          by (inr other) =
              let none : Unordered ≡ Committing run = sym (stand.others me there other stood_old) ∙ phase_old in
              absurd cc

      inside_old : IsIn me (current start old).full
      inside_old = first_inside me (current start old).full president_old

      across : IsAcross run.epoch run.next (epochs_of start old me)
      across =
          let right : IsRightIn start old (master_of start old me).voices (Committing run) =
          subst (IsRightIn start old (master_of start old me).voices) phase_old
          (stand.president me president_old stood_old) in
          each_in (λ m. IsAcross run.epoch run.next (epochs_of start old m)) me (current start old).full right.0.each
          inside_old

      reached : HasReached run.epoch (epochs_of start old me)
      reached =
          each_in (λ m. HasReached run.epoch (epochs_of start old m)) me (current start old).full
          (subst (IsRunReached start old) phase_old ((all_reached start all es some less).masters me there)) inside_old

      -- and its member took the order for it last
      order_is : (epochs_of start old me).prepared ≡ run.epoch
      order_is = by across
        where
          by : IsAcross run.epoch run.next (epochs_of start old me) → (epochs_of start old me).prepared ≡ run.epoch
          by (inl ready) = ready.prepared_is
          by (inr gone) = let low = gone.prepared in let up = reached.ordered in omega (arith, low, up)

      closed_of_life : AllGive (logs_of start es) → IsOfLife epoch
      closed_of_life give =
          subst IsOfLife (order_is ∙ closes_here.closes.epoch_is) (give me there).ordered

  all_give : (all : ℕ → List HostStep) (es : List HostStep) → start.start_epoch < start.epoch
      → IsMoment start all es → AllGive (logs_of start es)
  all_give all [] some moment = first_give moment.cluster.nobody some
  all_give all (e ∷ es) some moment =
      next_give all e es some moment (all_give all es some (moment_less start all e es moment))

  -- what was closed when the member was full
  was_of_life : (all : ℕ → List HostStep) (es : List HostStep) → start.start_epoch < start.epoch
      → IsMoment start all es → (epoch : ℕ) (member : Member) → WasFullAtClosing start es epoch member
      → IsOfLife epoch
  was_of_life all es some moment epoch member was =
      closed_of_life all was.closing was.older some at epoch was.marked
      (all_give all was.older some (moment_less start all was.closing was.older at))
    where
      at : IsMoment start all (was.closing ∷ was.older)
      at = moment_before start all was.newer (was.closing ∷ was.older) (subst (IsMoment start all) was.is moment)

  -- nothing is saved that isn't beyond the epoch from which the life started
  pub saved_above : NobodyStarts start → (member : Member) → IsIn member (made start) → (log : List HostStep)
      → start.start_epoch ≤ (rows_after start member log).saved
  saved_above nobody member there log =
      always (λ (s : ReplicaState). start.start_epoch ≤ s.saved)
      (λ s x above. let rises = saved_rises s x in omega (arith, above, rises)) (λ s view above. above)
      (λ s at has above. above) start nobody member there (omega arith) log

pub saved_of_life : SavedAreOfLife
saved_of_life start all es some moment member there =
    by (saved_were_closed start all es some moment member there)
  where
    saved : ℕ
    saved = (rows_at start (logs_of start es) member).saved

    by : (saved ≡ start.start_epoch) ⊎ WasFullAtClosing start es saved member
        → (saved ≡ start.start_epoch) ⊎ (start.epoch ≤ saved)
    by (inl first) = inl first
    by (inr was) = either (was_of_life start all es some moment saved member was)
      where
        either : (saved ≤ start.start_epoch) ⊎ (start.epoch ≤ saved)
            → (saved ≡ start.start_epoch) ⊎ (start.epoch ≤ saved)
        either (inl low) =
            let above = saved_above start moment.cluster.nobody member there (logs_of start es (ldm_of start member)) in
            inl (omega (arith, low, above))
        either (inr later) = inr later
