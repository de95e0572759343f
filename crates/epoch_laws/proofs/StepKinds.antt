-- What part a host runs it runs along its whole log.
use Rattle.std.proofs.Common.{List, [], ap, ℕ, ◌∙◌, ◌∷◌, ◌≡◌}
use Rattle.run_theory.specs.Lists.{IsIn}
use Rattle.sig_core.specs.declared.member.Member.{Member}
use Rattle.node_views.specs.declared.host_body.HostBody as node
use Rattle.node_views.specs.declared.parts.Parts.TheVariants.{Tc}
use Rattle.node_views.specs.declared.tc_part.TcPart.{TcPart}
use Rattle.world_core.specs.Start.{NobodyStarts, Start, made}
use Rattle.world_core.specs.Steps.{HostStep}
use Rattle.world_views.specs.Hosts.{started}
use Rattle.world_views.specs.Machine.{after}
use Rattle.moment_laws.proofs.MomentHosts.{tc_started}
use Rattle.moment_laws.specs.Places.{tc_of}
use Rattle.epoch_laws.proofs.StepTc.{tc_steps}

module _ (start : Start) (h : ℕ) where
  -- a coordinator and epochs
  pub record RunsTc (log : List HostStep) : Type 0 where
    pub part : TcPart
    pub is : (after start h log).parts ≡ Tc part

  pub runs_tc : (p : TcPart) → (started start h).parts ≡ Tc p → (log : List HostStep) → RunsTc log
  runs_tc p is [] = record { part = p; is = is }
  runs_tc p is (e ∷ log) =
      let before = runs_tc p is log in
      let step = tc_steps (after start h log) e.step.taken before.part h before.is in
      record { part = step.part; is = step.is }

  -- the host of a member's coordinator
  pub tc_at : NobodyStarts start → (me : Member) → IsIn me (made start) → h ≡ tc_of start me → (log : List HostStep)
      → RunsTc log
  tc_at nobody me there at log =
      runs_tc _
      (ap (λ k. (started start k).parts) at ∙ ap (λ (s : node.HostBody). s.parts) (tc_started start nobody me there))
      log
