-- Along each log of the host of a member's coordinator: it is that member's, its transactions have touched their keys
-- rightly, and each step comes to something for each of them.
use Rattle.std.proofs.Common.{◌≡◌, ◌≤◌, ◌∙◌, ℕ, zero, suc, true, List, [], ◌∷◌, refl, sym, ap, subst, arith}
use Rattle.run_theory.specs.Lists.{Each, IsIn}
use Rattle.frag_map.specs.Layout.{first_layout}
use Rattle.sig_core.specs.declared.member.Member.{Member}
use Rattle.sig_core.specs.declared.member.TxId.{TxId}
use Rattle.sig_core.specs.declared.op.Answer.{Answer}
use Rattle.sig_core.specs.declared.op.Op.{Op}
use Rattle.sig_core.specs.declared.place.Part.TheVariants.{Tc}
use Rattle.sig_core.specs.declared.signal.Body.TheVariants.{Epoch}
use Rattle.sig_core.specs.declared.signal.epoch.EpochSignal.TheVariants.{DiVerifyReq}
use Rattle.sig_core.specs.Step.{Step}
use Rattle.tc_views.specs.Coordinator.{fresh_coordinator}
use Rattle.tc_views.specs.State.{CoordinatorState}
use Rattle.dih_node.specs.Dih.{fresh_dih}
use Rattle.takeover_block.specs.State.{resting}
use Rattle.node_views.specs.declared.host_body.HostBody as hosts
use Rattle.node_views.specs.declared.parts.Parts.TheVariants as part
use Rattle.node_views.specs.declared.tc_part.TcPart.{TcPart}
use Rattle.node_views.specs.WellFormed.{is_well_formed}
use Rattle.world_core.specs.Start.{NobodyStarts, Start, made}
use Rattle.world_core.specs.Steps.{HostStep}
use Rattle.world_views.specs.Machine.{after, step_after, told}
use Rattle.moment_laws.specs.Places.{tc_of}
use Rattle.moment_laws.proofs.MomentHosts.{part_some, tc_started}
use Rattle.outcome_laws.specs.Counts.{IsCoordinatorOf}
use Rattle.outcome_laws.proofs.coordinators.BeginsAndAsks.{coordinator_of_fresh}
use Rattle.request_laws.specs.Blocks.{coordinator_after, coordinator_in}
use Rattle.request_laws.proofs.phases.Events.{HasMoved, Said, moves_by}
use Rattle.request_laws.proofs.phases.HostSteps.{tc_goes}
use Rattle.request_laws.proofs.phases.TouchedKeys.{IsKeyed}
use Rattle.request_laws.proofs.phases.Moves.{Comes}

-- a host of a node comes out as its step does
pub told_some : (h : ℕ) → 1 ≤ h → (t : Step hosts.HostBody) → told h t ≡ t.state
told_some zero some t = absurd (omega (arith, some))
told_some (suc h) some t = refl

module _ (start : Start) (member : Member) (there : IsIn member (made start)) where
  abbrev h : ℕ
  h = tc_of start member

  abbrev other : CoordinatorState
  other = fresh_coordinator member.node member.start (first_layout start.shape)

  -- the coordinating part that the host runs behind a log, and what is so of it
  pub record IsRun (log : List HostStep) : Type 0 where
    pub own : TcPart
    pub runs : (after start h log).parts ≡ part.Tc own
    pub fits : IsCoordinatorOf member own.coordinator
    pub touched : Each IsKeyed own.coordinator.tc.live

  -- what a step comes to for it, where P is so of what was held and of who asks
  module _ (log : List HostStep) (e : HostStep) (at : IsRun log) (P : TxId → Type 0) (all : Each P at.own.dih.held)
      (asks : (tx : TxId) (ops : List (Op × Answer)) → e.step.taken.body ≡ Epoch (DiVerifyReq tx ops) → P tx)
    where
      moved : NobodyStarts start
          → HasMoved member start.shape at.own e.step.taken at.fits at.touched P all asks (step_after start h log e)
      moved nobody =
          moves_by member start.shape at.own e.step.taken at.fits at.touched P all asks (step_after start h log e)
          (tc_goes start nobody h log e at.own at.runs)

      now_runs : (nobody : NobodyStarts start) → (after start h (e ∷ log)).parts ≡ part.Tc (moved nobody).now
      now_runs nobody =
          ap (λ (s : hosts.HostBody). s.parts) (told_some h (part_some start Tc member) (step_after start h log e))
          ∙ (moved nobody).runs

      pub record IsNext : Type 0 where
        pub run : IsRun (e ∷ log)
        pub comes : (tx : TxId)
            → Comes member at.own.coordinator e.step.taken (is_well_formed start.shape e.step.taken ≡ true) tx
            run.own.coordinator (step_after start h log e).effects.sends
        pub said : Said P run.own.dih.held (step_after start h log e).effects

      pub next : NobodyStarts start → IsNext
      next nobody = record {
        run = record {
          own = (moved nobody).now;
          runs = now_runs nobody;
          fits = (moved nobody).moves.fits;
          touched = (moved nobody).moves.touched;
        };
        comes = (moved nobody).moves.comes;
        said = (moved nobody).moves.said;
      }

  abbrev begun : TcPart
  begun = record {
    coordinator = other;
    takeover = resting member.node (first_layout start.shape);
    dih = fresh_dih member.node (first_layout start.shape).view.number start.epoch start.start_epoch;
  }

  first : NobodyStarts start → IsRun []
  first nobody = record {
    own = begun;
    runs = ap (λ (s : hosts.HostBody). s.parts) (tc_started start nobody member there);
    fits = coordinator_of_fresh member (first_layout start.shape);
    touched = tt;
  }

  -- it holds nothing as it begins
  pub record Begins : Type 0 where
    pub run : IsRun []
    pub held : run.own.dih.held ≡ []

  pub begins : NobodyStarts start → Begins
  unfolding first
  begins nobody = record { run = first nobody; held = refl }

  any_held : (held : List TxId) → Each (λ (tx : TxId). Unit {0}) held
  any_held [] = tt
  any_held (tx ∷ held) = (tt, any_held held)

  -- so it is of each log
  pub runs_tc : NobodyStarts start → (log : List HostStep) → IsRun log
  runs_tc nobody [] = first nobody
  runs_tc nobody (e ∷ log) =
      let at = runs_tc nobody log in
      (next log e at (λ (tx : TxId). Unit {0}) (any_held at.own.dih.held) (λ tx ops is. tt) nobody).run

  -- the coordinator is that of the part
  pub coordinator_is : (log : List HostStep) (at : IsRun log) → coordinator_after start member log ≡ at.own.coordinator
  coordinator_is log at = ap (coordinator_in other) at.runs

  pub coordinator_of : NobodyStarts start → (log : List HostStep)
      → IsCoordinatorOf member (coordinator_after start member log)
  coordinator_of nobody log =
      let at = runs_tc nobody log in subst (IsCoordinatorOf member) (sym (coordinator_is log at)) at.fits

  pub coordinator_touched : NobodyStarts start → (log : List HostStep)
      → Each IsKeyed (coordinator_after start member log).tc.live
  coordinator_touched nobody log =
      let at = runs_tc nobody log in
      subst (λ (s : CoordinatorState). Each IsKeyed s.tc.live) (sym (coordinator_is log at)) at.touched

  -- what a step comes to for each of its transactions
  pub coordinator_comes : NobodyStarts start → (log : List HostStep) (e : HostStep) (tx : TxId)
      → Comes member (coordinator_after start member log) e.step.taken
      (is_well_formed start.shape e.step.taken ≡ true) tx (coordinator_after start member (e ∷ log))
      (step_after start h log e).effects.sends
  coordinator_comes nobody log e tx =
      let at = runs_tc nobody log in
      let after_it = next log e at (λ (tx : TxId). Unit {0}) (any_held at.own.dih.held) (λ tx ops is. tt) nobody in
      subst
      (λ (s : CoordinatorState). Comes member s e.step.taken (is_well_formed start.shape e.step.taken ≡ true) tx
      (coordinator_after start member (e ∷ log)) (step_after start h log e).effects.sends)
      (sym (coordinator_is log at))
      (subst
      (λ (s : CoordinatorState). Comes member at.own.coordinator e.step.taken
      (is_well_formed start.shape e.step.taken ≡ true) tx s (step_after start h log e).effects.sends)
      (sym (coordinator_is (e ∷ log) after_it.run)) (after_it.comes tx))

  -- and as its life begins
  pub coordinator_first : NobodyStarts start → coordinator_after start member [] ≡ other
  coordinator_first nobody =
      ap (λ (s : hosts.HostBody). coordinator_in other s.parts) (tc_started start nobody member there)
