-- No decision of an event gives a later epoch than its member does; so the members of the current view stay alike.
use Rattle.std.proofs.Common.{◌≡◌, ◌≤◌, ℕ, List, ◌∷◌, sym, ap, subst, inl, inr, arith}
use Rattle.run_theory.proofs.Orders.{each_next}
use Rattle.run_theory.proofs.Pasts.{each_from, each_in, each_map}
use Rattle.run_theory.specs.Lists.{Each, IsIn}
use Rattle.run_theory.specs.Runs.{Happens}
use Rattle.sig_core.specs.declared.mark.Mark.{Mark}
use Rattle.sig_core.specs.declared.mark.Mark.TheVariants.{Decided}
use Rattle.sig_core.specs.declared.member.Member.{Member}
use Rattle.sig_core.specs.declared.view.View.{View}
use Rattle.dih_node.specs.Dih.{fresh_dih}
use Rattle.dih_node.specs.State.{DihState}
use Rattle.node_views.specs.declared.host_body.HostBody as hosts
use Rattle.world_core.specs.Start.{NobodyStarts, Start, made}
use Rattle.world_core.specs.Steps.{HostStep}
use Rattle.world_views.specs.Machine.{after, machine, step_after}
use Rattle.view_laws.specs.Order.{sound_machine}
use Rattle.epoch_laws.specs.Alike.{AreAlike, AreTogether, AreUpTo, EachFull, GivesUpTo, IsAcross, Waits}
use Rattle.epoch_laws.specs.Members.{dih_in, epochs_of, master_of}
use Rattle.moment_laws.specs.Places.{tc_of}
use Rattle.moment_laws.specs.Moments.{IsMoment, current, logs_of}
use Rattle.epoch_laws.specs.Stand.{AllStand}
use Rattle.epoch_laws.proofs.DihMoves.{Stays}
use Rattle.epoch_laws.proofs.DihSends.{IsGivenBy}
use Rattle.view_laws.proofs.eras.DecisionMarks.{IsUndecided}
use Rattle.epoch_laws.proofs.MarkSteps.{others_decide_none, tc_steps_give}
use Rattle.epoch_laws.proofs.MemberStays.{across_stays, waits_stays}
use Rattle.moment_laws.proofs.MomentHosts.{TcHost, never_tc, of_none, of_tc, tc_host_is, tc_started}
use Rattle.moment_laws.proofs.MomentMembers.{full_less}
use Rattle.moment_laws.proofs.MomentTurns.{Turn, host_low, keeps, raises, turn}
use Rattle.epoch_laws.proofs.OrderKeeps.{AreGivenTo, commit_keeps, prepare_keeps}
use Rattle.epoch_laws.proofs.StandTakes.{Carries, carries, commits, one_taker, others_same, prepares, stay, taker_made}
use Rattle.epoch_laws.proofs.StepKinds.{RunsTc, runs_tc}

-- what a member gives, and what is no decision
up_to_own : (epoch : ℕ) (s : DihState) → s.current ≤ epoch → (mark : Mark) → IsGivenBy s mark → GivesUpTo epoch mark
up_to_own epoch s low (Decided tx given) is = let same = is.0 in omega (arith, low, same)
up_to_own epoch s low _ is = tt

up_to_none : (epoch : ℕ) (mark : Mark) → IsUndecided mark → GivesUpTo epoch mark
up_to_none epoch (Decided tx given) none = absurd cc
up_to_none epoch _ none = tt

-- the epochs of a member are those of its coordinating host
pub runs_epochs : (start : Start) (nobody : NobodyStarts start) (logs : ℕ → List HostStep) (me : Member)
    → IsIn me (made start)
    → RunsTc start (tc_of start me) (logs (tc_of start me))
runs_epochs start nobody logs me there =
    runs_tc start (tc_of start me) _ (ap (λ (s : hosts.HostBody). s.parts) (tc_started start nobody me there))
    (logs (tc_of start me))

module _ (start : Start) (all : ℕ → List HostStep) (e : HostStep) (es : List HostStep)
    (moment : IsMoment start all (e ∷ es)) (stand : AllStand start (logs_of start es))
  where
    abbrev old : ℕ → List HostStep
    old = logs_of start es

    abbrev new : ℕ → List HostStep
    new = logs_of start (e ∷ es)

    pub marks_are : e.step.marks ≡ (step_after start e.host (old e.host) e).effects.marks
    marks_are =
        let happens : Happens (sound_machine start) es e = moment.run.1 in
        happens.step.fits.marks

    module _ (epoch : ℕ) (low : (m : Member) → e.host ≡ tc_of start m → (epochs_of start old m).current ≤ epoch) where
      tc_given : (m : Member) → IsIn m (made start) → e.host ≡ tc_of start m
          → Each (GivesUpTo epoch) (step_after start e.host (old e.host) e).effects.marks
      tc_given m there at =
          subst (λ h. Each (GivesUpTo epoch) (step_after start h (old h) e).effects.marks) (sym at)
          (each_map (IsGivenBy runs.part.dih) (GivesUpTo epoch) _ (up_to_own epoch runs.part.dih below)
          (tc_steps_give (tc_of start m) (after start (tc_of start m) (old (tc_of start m))) e.step.taken runs.part
          runs.is))
        where
          runs : RunsTc start (tc_of start m) (old (tc_of start m))
          runs = runs_epochs start moment.cluster.nobody old m there

          below : (runs_epochs start moment.cluster.nobody old m there).part.dih.current ≤ epoch
          below = subst (λ (s : DihState). s.current ≤ epoch)
              (ap (dih_in (fresh_dih 0 0 0 0)) (runs_epochs start moment.cluster.nobody old m there).is) (low m at)

      pub given_next : Each (GivesUpTo epoch) e.step.marks
      given_next = subst (Each (GivesUpTo epoch)) (sym marks_are)
          (by (tc_host_is start moment.cluster.nobody e.host (host_low start all e es moment)))
        where
          by : TcHost start e.host → Each (GivesUpTo epoch) (step_after start e.host (old e.host) e).effects.marks
          by (of_tc me there at) = tc_given me there at
          by (of_none none) =
              each_map IsUndecided (GivesUpTo epoch) _ (up_to_none epoch)
              (others_decide_none e.host (after start e.host (old e.host)) e.step.taken
              (never_tc start e.host (old e.host) none))

      pub given_all : AreGivenTo start old epoch → AreGivenTo start new epoch
      given_all given h =
          each_next (machine start) (λ (e : HostStep). Each (GivesUpTo epoch) e.step.marks) es e h given_next (given h)

    -- who is a full member was one
    pub full_before : (member : Member) → IsIn member (current start new).full → IsIn member (current start old).full
    full_before member there = by (turn start all e es moment)
      where
        by : Turn start all e es moment → IsIn member (current start old).full
        by (keeps same stands) = subst (λ (v : View). IsIn member v.full) same there
        by (raises above stands) = full_less start all e es moment above member there

    pub full_next : (P : DihState → Type 0) → ((s now : DihState) → Stays s now → P s → P now)
        → ((member : Member) → Stays (epochs_of start old member) (epochs_of start new member)) → EachFull start old P
        → EachFull start new P
    full_next P keep stays each =
        each_from _ (current start new).full
        (λ member there. keep _ _ (stays member)
        (each_in _ member (current start old).full each (full_before member there)))

    stay_alike : ((member : Member) → Stays (epochs_of start old member) (epochs_of start new member))
        → AreAlike start new
    stay_alike stays = record {
      epoch = stand.alike.epoch;
      next = stand.alike.next;
      rises = stand.alike.rises;
      together = by stand.alike.together;
    }
      where
        up_to : (epoch : ℕ) → AreUpTo start old epoch → AreUpTo start new epoch
        up_to epoch up = record {
          gives = λ member there.
              let low = up.gives member there in
              let same = (stays member).current_is in
              omega (arith, low, same);
          given = given_all epoch (λ m at. up.gives m (taker_made start all e es moment stand m at)) up.given;
        }

        by : AreTogether start old stand.alike.epoch stand.alike.next
            → AreTogether start new stand.alike.epoch stand.alike.next
        by (inl (each, up)) =
            inl (
              full_next (Waits stand.alike.epoch stand.alike.next)
                  (λ s now same. waits_stays s now same stand.alike.epoch stand.alike.next) stays each,
              up_to stand.alike.epoch up,
            )
        by (inr (each, up)) =
            inr (
              full_next (IsAcross stand.alike.epoch stand.alike.next)
                  (λ s now same. across_stays s now same stand.alike.epoch stand.alike.next) stays each,
              up_to stand.alike.next up,
            )

    -- what was given is given up to the epoch of the one member that moves
    pub marks_by : (m : Member) → e.host ≡ tc_of start m → (epoch : ℕ) → (epochs_of start old m).current ≤ epoch
        → AreGivenTo start old epoch → AreGivenTo start new epoch
    marks_by m at epoch low given =
        given_all epoch
        (λ other at_too.
        subst (λ (k : Member). (epochs_of start old k).current ≤ epoch)
        (sym (one_taker start all e es moment stand m other at at_too)) low) given

    pub alike_next : AreAlike start new
    alike_next = by (carries start all e es moment stand)
      where
        by : Carries start all e es moment stand → AreAlike start new
        by (stay stays) = stay_alike stays
        by (prepares m at inside view epoch next rises ordered late moves) =
            let p = master_of start old ordered.president in
            (prepare_keeps start old new m (others_same start all e es moment stand m at)
            (sym (ap (λ (v : View). v.full) view)) inside (marks_by m at) stand.alike epoch next rises late p.voices
            p.phase
            (stand.president ordered.president ordered.is ordered.stands) ordered.far moves).alike
        by (commits m at inside view epoch next rises ordered late moves) =
            let p = master_of start old ordered.president in
            (commit_keeps start old new m (others_same start all e es moment stand m at)
            (sym (ap (λ (v : View). v.full) view)) inside (marks_by m at) stand.alike epoch next rises late p.voices
            p.phase
            (stand.president ordered.president ordered.is ordered.stands) ordered.far moves).alike
