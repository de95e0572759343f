-- Along the log of the shell's host: what its steps come to for the client, and what holds after each.
use Rattle.std.proofs.Common.{◌≡◌, List, [], ◌∷◌, ap, refl, subst, sym}
use Rattle.sig_core.specs.declared.reply.ApiReply.{ApiReply}
use Rattle.node_views.specs.declared.parts.Parts.{Parts}
use Rattle.node_views.specs.declared.parts.Parts.TheVariants.{Ldm, Main, Shell, Tc}
use Rattle.node_views.specs.declared.shell_part.ShellPart.{ShellPart}
use Rattle.node_views.specs.Replies.{giving}
use Rattle.world_core.specs.Start.{NobodyStarts, Start}
use Rattle.world_core.specs.Steps.{HostStep}
use Rattle.world_views.specs.Hosts.{started}
use Rattle.world_views.specs.Machine.{after, replies_at, step_after}
use Rattle.moment_laws.proofs.PartKinds.{shell_after}
use Rattle.outcome_laws.proofs.once.DecidesAndReports.{IsShell}
use Rattle.talk_laws.specs.Reports.{opened_after, opened_in}
use Rattle.talk_laws.proofs.ClientTalks.{Talk, TalkForms}
use Rattle.talk_laws.proofs.ShellTalks.{HostForms, shell_talks}

-- giving replies opens and ends nothing
giving_opened : (parts : Parts) (replies : List ApiReply) → opened_in (giving parts replies) ≡ opened_in parts
giving_opened (Shell p) replies = refl
giving_opened (Main p) replies = refl
giving_opened (Tc p) replies = refl
giving_opened (Ldm p) replies = refl

module _ (start : Start) where
  -- it runs the client's side, with no reply left
  record Stands (log : List HostStep) : Type 0 where
    own : ShellPart
    runs : (after start 0 log).parts ≡ Shell own
    none : own.client.api.replies ≡ []

  stands : NobodyStarts start → (log : List HostStep) → Stands log
  unfolding started
  stands nobody [] = record { own = _; runs = refl; none = refl }
  stands nobody (e ∷ log) =
      let old = stands nobody log in
      let did = shell_after start nobody log e old.own old.runs in
      record { own = _; runs = ap (λ parts. giving parts []) did.is; none = refl }

  pub is_shell : NobodyStarts start → (log : List HostStep) → IsShell (after start 0 log).parts
  is_shell nobody log = subst IsShell (sym (stands nobody log).runs) tt

  pub opened_first : opened_after start [] ≡ []
  unfolding started
  opened_first = refl

  pub opened_next : (e : HostStep) (log : List HostStep)
      → opened_after start (e ∷ log) ≡ opened_in (step_after start 0 log e).state.parts
  opened_next e log = giving_opened (step_after start 0 log e).state.parts []

  -- what is so of each form of a step is so of what its step comes to
  pub step_talks : NobodyStarts start → (e : HostStep) (log : List HostStep) (R : Talk)
      → TalkForms (opened_after start log) [] e.step.taken.body R → HostForms (opened_after start log) [] R
      → R (opened_after start (e ∷ log)) (step_after start 0 log e).effects.sends
      (step_after start 0 log e).effects.marks (replies_at 0 (step_after start 0 log e))
  step_talks nobody e log R forms beside =
      let old = stands nobody log in
      let opened = ap opened_in old.runs in
      let t = step_after start 0 log e in
      subst (λ now. R now t.effects.sends t.effects.marks (replies_at 0 t)) (sym (opened_next e log))
      (shell_talks e.step.taken R (after start 0 log) old.own old.runs
      (subst (λ before. TalkForms old.own.client.api.opened before e.step.taken.body R) (sym old.none)
      (subst (λ now. TalkForms now [] e.step.taken.body R) opened forms))
      (subst (λ before. HostForms old.own.client.api.opened before R) (sym old.none)
      (subst (λ now. HostForms now [] R) opened beside)))
