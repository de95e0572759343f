-- A host that decides goes on: one that stops decides nothing.
use Rattle.std.proofs.Common.{◌≡◌, ◌||◌, ◌++◌, ◌∙◌, ℕ, true, false, List, [], ◌∷◌, refl, ap, subst}
use Rattle.std.proofs.lemmas.Bool.{true≢false}
use Rattle.run_theory.proofs.Pasts.{each_append, each_in}
use Rattle.run_theory.specs.Lists.{Each, IsIn}
use Rattle.run_theory.specs.Runs.{Happens}
use Rattle.commit_laws.proofs.forth.DecidedStay.{decided_mark}
use Rattle.sig_core.specs.declared.mark.Mark.{Mark}
use Rattle.sig_core.specs.declared.mark.Mark.TheVariants.{Decided}
use Rattle.sig_core.specs.declared.member.Member.{Member}
use Rattle.sig_core.specs.declared.member.TxId.{TxId}
use Rattle.sig_core.specs.Step.{Effects}
use Rattle.node_views.specs.Parts.{tc_row}
use Rattle.node_views.specs.Row.{is_stop}
use Rattle.world_core.specs.Start.{Start, made}
use Rattle.world_core.specs.Steps.{HostStep}
use Rattle.world_views.specs.Machine.{step_after, stops_by}
use Rattle.view_laws.specs.Order.{sound_machine}
use Rattle.moment_laws.specs.Moments.{IsMoment, logs_of}
use Rattle.moment_laws.specs.Places.{tc_of}
use Rattle.outcome_laws.specs.Counts.{coordinator_member}
use Rattle.request_laws.proofs.phases.AlongLogs.{IsRun, runs_tc}
use Rattle.request_laws.proofs.phases.HostSteps.{Goes, is_decided_mark, leaves, takes, tc_goes}
use Rattle.commit_laws.specs.Going.{is_decided}
use Rattle.commit_laws.specs.Owed.{DecidersGoOn}
use Rattle.commit_laws.proofs.fates.Committed.{decided_made}
use Rattle.commit_laws.proofs.forth.All.{forth_is_known}
use Rattle.commit_laws.proofs.fates.Decided.{decides_now}
use Rattle.commit_laws.proofs.led.Entries.{new_there}
use Rattle.commit_laws.proofs.hosts.MarkReasons.{tc_marks_each}
use Rattle.commit_laws.proofs.settled.OfFullCoordinators.{decided_now}

abbrev IsGoing : Mark → Type 0
IsGoing mark = is_stop mark ≡ false

none_stops : (marks : List Mark) → Each IsGoing marks → stops_by marks ≡ false
none_stops [] all = refl
none_stops (mark ∷ marks) all = ap (λ b. b || stops_by marks) all.0 ∙ none_stops marks all.1

module _ (start : Start) (all : ℕ → List HostStep) (e : HostStep) (es : List HostStep)
    (moment : IsMoment start all (e ∷ es)) (tx : TxId) (epoch : ℕ) (there : IsIn (Decided tx epoch) e.step.marks) where
  abbrev member : Member
  member = coordinator_member tx

  abbrev log : List HostStep
  log = logs_of start es (tc_of start (coordinator_member tx))

  decided : is_decided start (logs_of start (e ∷ es)) tx ≡ true
  decided = decided_now start all e es moment tx (decided_mark tx epoch e.step.marks there)

  -- who decides was made, and its host does so
  pub decider_made : IsIn member (made start)
  decider_made = decided_made start all (e ∷ es) moment tx decided

  pub decider_home : e.host ≡ tc_of start member
  decider_home =
      (decides_now forth_is_known start all e es moment tx decided
      (new_there start all e es moment tx [] (decided_mark tx epoch e.step.marks there))).at

  marks_are : e.step.marks ≡ (step_after start (tc_of start member) log e).effects.marks
  marks_are =
      let happens : Happens (sound_machine start) es e = moment.run.1 in
      subst (λ h. e.step.marks ≡ (step_after start h (logs_of start es h) e).effects.marks) decider_home
      happens.step.fits.marks

  runs : IsRun start member decider_made log
  runs = runs_tc start member decider_made moment.cluster.nobody log

  goes_on : stops_by e.step.marks ≡ false
  goes_on = by (tc_goes start moment.cluster.nobody (tc_of start member) log e runs.own runs.runs)
    where
      by : Goes start.shape runs.own e.step.taken (step_after start (tc_of start member) log e)
          → stops_by e.step.marks ≡ false
      by (leaves between entered parts words none) =
          absurd (true≢false (each_in (λ mark. is_decided_mark mark ≡ false) (Decided tx epoch)
          (step_after start (tc_of start member) log e).effects.marks none
          (subst (IsIn (Decided tx epoch)) marks_are there)))
      by (takes between entered sound front words none going parts effects) =
          let row = (tc_row between e.step.taken.to.block e.step.taken).effects.marks in
          ap stops_by (marks_are ∙ ap (λ (f : Effects). f.marks) effects)
          ∙ none_stops (front.marks ++ row)
          (each_append IsGoing front.marks row going
          (tc_marks_each IsGoing (λ u n. refl) between e.step.taken.to.block e.step.taken))

pub deciders_go_on : DecidersGoOn
deciders_go_on start all e es moment tx epoch there = goes_on start all e es moment tx epoch there
