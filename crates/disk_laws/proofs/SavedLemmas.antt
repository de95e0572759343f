-- The epoch that a member's rows noted as saved, along a log of their host.
use Rattle.std.proofs.Common.{◌≡◌, ◌∙◌, ◌≤◌, ℕ, zero, suc, true, List, [], ◌∷◌, ◌++◌, refl, ap, sym, subst, arith}
use Rattle.run_theory.specs.Lists.{IsIn, IsPast}
use Rattle.sig_core.specs.declared.member.Member.{Member}
use Rattle.sig_core.specs.declared.outs.Outgoing.{Outgoing}
use Rattle.sig_core.specs.declared.place.BlockId.{BlockId}
use Rattle.sig_core.specs.declared.place.BlockId.TheVariants as block
use Rattle.sig_core.specs.declared.place.Part.TheVariants.{Ldm}
use Rattle.sig_core.specs.declared.signal.Signal.{Signal}
use Rattle.sig_core.specs.declared.view.Shape.{Shape}
use Rattle.sig_core.specs.declared.view.View.{View}
use Rattle.sig_core.specs.Step.{Step}
use Rattle.lqh_saver.specs.State.{saving}
use Rattle.lqh_saver.proofs.StepLemmas.{saver_rows}
use Rattle.lqh_views.specs.State.{ReplicaState}
use Rattle.node_views.specs.declared.host_body.HostBody as hosts
use Rattle.node_views.specs.declared.ldm_part.LdmPart.{LdmPart}
use Rattle.node_views.specs.Parts.{ldm_row}
use Rattle.node_views.specs.Saving.{saved_by}
use Rattle.moment_laws.specs.PartSteps.{PartEnters, PartTakes, handles, ignores, installs, ldm_kind, remains}
use Rattle.moment_laws.specs.Places.{ldm_of}
use Rattle.moment_laws.proofs.MomentHosts.{ldm_started, part_some}
use Rattle.request_laws.specs.Blocks.{no_replica, rows_after, rows_in}
use Rattle.request_laws.proofs.routes.Layouts.{runs_ldm}
use Rattle.request_laws.proofs.routes.PartSteps.{own_ldm, rows_are}
use Rattle.world_core.specs.Start.{NobodyStarts, Start, made}
use Rattle.world_core.specs.Steps.{HostStep}
use Rattle.world_views.specs.Machine.{after, step_after, stops_by, told}
use Rattle.journal_laws.proofs.events.ReplicaEvents.{saved_rises}
use Rattle.disk_laws.proofs.StopsKeepSaved.{step_keeps}

ldm_rises : (p : LdmPart) (x : Signal) (to : BlockId) → p.replica.saved ≤ (ldm_row p to x).state.replica.saved
unfolding ldm_row
ldm_rises p x block.Lqh =
    saver_rows (saving p.replica p.saver) x (λ r. p.replica.saved ≤ r.saved) (omega arith) (saved_rises p.replica x)
    (λ at has. omega arith)
ldm_rises p x _ = omega arith

enters_same : (p : LdmPart) (view : View) (x : Signal) (between : LdmPart) (stood : View) (front : List Outgoing)
    → PartEnters ldm_kind p view x between stood front → between.replica.saved ≡ p.replica.saved
enters_same p view x between stood front (remains same stands none) = ap (λ (q : LdmPart). q.replica.saved) same
enters_same p view x between stood front (installs above same stands sends) =
    ap (λ (q : LdmPart). q.replica.saved) same

takes_rises : (shape : Shape) (between : LdmPart) (stood : View) (x : Signal) (now : LdmPart) (rest : List Outgoing)
    → PartTakes ldm_kind shape between stood x now rest → between.replica.saved ≤ now.replica.saved
takes_rises shape between stood x now rest (ignores same none) =
    subst (λ (q : LdmPart). between.replica.saved ≤ q.replica.saved) (sym same) (omega arith)
takes_rises shape between stood x now rest (handles passed same sends) =
    subst (λ (q : LdmPart). between.replica.saved ≤ q.replica.saved) (sym same) (ldm_rises between x x.to.block)

pub told_some : (h : ℕ) (t : Step hosts.HostBody) → 1 ≤ h → told h t ≡ t.state
told_some zero t some = absurd (omega (arith, some))
told_some (suc h) t some = refl

module _ (start : Start) (nobody : NobodyStarts start) (member : Member) (there : IsIn member (made start)) where
  abbrev h : ℕ
  h = ldm_of start member

  abbrev saved_after : List HostStep → ℕ
  saved_after log = (rows_after start member log).saved

  -- it is what its host's part says
  pub saved_is : (log : List HostStep) → saved_by (after start h log).parts ≡ saved_after log
  saved_is log =
      let at = runs_ldm start nobody member there log in
      ap saved_by at.runs
      ∙ sym (ap (λ (r : ReplicaState). r.saved) (rows_are start member h log refl at.own at.runs))

  -- at first it is the epoch from which the life started
  pub first_saved : saved_after [] ≡ start.start_epoch
  first_saved =
      ap (λ (s : hosts.HostBody). (rows_in (no_replica start member) s.parts).saved)
      (ldm_started start nobody member there)

  log_rises : (log : List HostStep) (e : HostStep) → saved_after log ≤ saved_after (e ∷ log)
  log_rises log e =
      let step = own_ldm start nobody member there log e in
      let before : saved_after log ≡ step.own.replica.saved =
      ap (λ (r : ReplicaState). r.saved) (rows_are start member h log refl step.own step.runs) in
      let behind : saved_after (e ∷ log) ≡ step.does.own.replica.saved =
      ap (λ (r : ReplicaState). r.saved) (rows_are start member h (e ∷ log) refl step.does.own step.does.is) in
      let same = enters_same step.own _ e.step.taken step.does.between _ step.does.front step.does.enters in
      let rises =
      takes_rises start.shape step.does.between _ e.step.taken step.does.own step.does.rest step.does.takes in
      omega (arith, before, behind, same, rises)

  -- it never falls
  pub saved_along : (older log : List HostStep) → IsPast older log → saved_after older ≤ saved_after log
  saved_along older log past = subst (λ l. saved_after older ≤ saved_after l) (sym past.is) (by past.newer)
    where
      by : (newer : List HostStep) → saved_after older ≤ saved_after (newer ++ older)
      by [] = omega arith
      by (e ∷ newer) = let rises = log_rises (newer ++ older) e in omega (arith, by newer, rises)

  -- and a step that stops the host leaves it
  pub stop_keeps : (log : List HostStep) (e : HostStep)
      → stops_by (step_after start h log e).effects.marks ≡ true → saved_after (e ∷ log) ≡ saved_after log
  stop_keeps log e stops =
      let at = runs_ldm start nobody member there log in
      let t : Step hosts.HostBody = step_after start h log e in
      sym (saved_is (e ∷ log))
      ∙ ap (λ (s : hosts.HostBody). saved_by s.parts) (told_some h t (part_some start Ldm member))
      ∙ step_keeps e.step.taken h (after start h log) at.own at.runs stops
      ∙ sym (ap (λ (r : ReplicaState). r.saved) (rows_are start member h log refl at.own at.runs))
