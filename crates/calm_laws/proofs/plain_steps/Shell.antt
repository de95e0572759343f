-- In calm the shell's host does at a signal what its plain one does, but that a round of time goes to the membership
-- besides.
use Rattle.std.proofs.Common.{◌≡◌, true, List, [], ◌++◌, refl, sym, ap, ◌∙◌, subst, subst₂}
use Rattle.std.specs.Prelude.{◌&&◌, None}
use Rattle.run_theory.specs.Lists.{Each}
use Rattle.sig_core.specs.declared.place.BlockId.{BlockId}
use Rattle.sig_core.specs.declared.place.BlockId.TheVariants.{Api}
use Rattle.sig_core.specs.declared.reply.ApiReply.{ApiReply}
use Rattle.sig_core.specs.declared.signal.Body.{Body}
use Rattle.sig_core.specs.declared.signal.Signal.{Signal}
use Rattle.sig_core.specs.Step.{Step}
use Rattle.frag_map.specs.Shape.{IsShape}
use Rattle.api_block.specs.Api.{api_row}
use Rattle.api_block.specs.Given.{in_given, step_in_given}
use Rattle.api_block.specs.State.{ApiState, with_replies}
use Rattle.api_block.proofs.ApiLemmas.{given_row}
use Rattle.api_views.specs.Client.{client_row}
use Rattle.api_views.specs.Laws.{calm_state}
use Rattle.api_views.specs.State.{ClientState, with_api}
use Rattle.node_core.specs.declared.host.Host as plain
use Rattle.node_core.specs.declared.host.Host.TheVariants as plain_host
use Rattle.node_core.specs.Row as plain_row
use Rattle.node_core.specs.Row.{row}
use Rattle.node_views.specs.declared.host_body.HostBody as host
use Rattle.node_views.specs.declared.parts.Parts.{Parts}
use Rattle.node_views.specs.declared.parts.Parts.TheVariants.{Shell, Main, Tc, Ldm}
use Rattle.node_views.specs.declared.shell_part.ShellPart.{ShellPart}
use Rattle.node_views.specs.declared.standing.Standing.{Standing}
use Rattle.node_views.specs.Blocks.{in_shell}
use Rattle.node_views.specs.Parts.{in_client, shell_row}
use Rattle.node_views.specs.Row.{blocks_row, with_parts}
use Rattle.world_core.specs.Start.{Start}
use Rattle.world_views.specs.Machine.{replies_at, step_by, stops_by, told}
use Rattle.calm_laws.specs.Alike.{AreAlike, first}
use Rattle.calm_laws.specs.Calm.{has_block, is_for, is_for_client}
use Rattle.calm_laws.specs.Steps.{ComesCalmly, IsPlainSend, ShellsStepAlike, StepAlike, besides, plain_replies}
use Rattle.calm_laws.proofs.plain_steps.Client.{ClientAlike, client_alike}
use Rattle.calm_laws.proofs.plain_steps.Ease.{ease_row}

-- what the shell's host takes is for the client
for_client : (block : BlockId) (body : Body) → (has_block 0 block && is_for block body) ≡ true
    → (block ≡ Api) × (is_for_client body ≡ true)
for_client Api body fits = (refl, fits)
for_client _ body fits = absurd cc

module _ (start : Start) (given : List ApiReply) (standing : Standing) (p : ShellPart) (other : ApiState) (x : Signal)
    (shape : IsShape start.shape) (comes : ComesCalmly start 0 x) where
  abbrev s : host.HostBody
  s = record { standing = standing; parts = Shell p }

  -- the API of its client's side, and what that does
  abbrev a : ApiState
  a = p.client.api

  abbrev t : Step ClientState
  t = client_row p.client x

  abbrev mine : Step host.HostBody
  mine = with_parts s (in_shell (in_client p t))

  abbrev theirs : Step plain.Host
  theirs = plain_row.in_shell (step_in_given given (api_row a x))

  module _ (alike : AreAlike start given s (plain_host.Shell other)) where
    -- a step of the host is one of its client's side, and a step of its plain one is one of the API
    taken : (x.to.block ≡ Api) × (is_for_client x.body ≡ true)
    taken = for_client x.to.block x.body comes.calm

    mine_is : step_by 0 s x ≡ mine
    unfolding blocks_row shell_row
    mine_is =
        ease_row start 0 given s (plain_host.Shell other) x alike comes
        ∙ ap (λ (block : BlockId). with_parts s (in_shell (shell_row p block x))) taken.0

    theirs_is : row (plain_host.Shell other) x ≡ theirs
    unfolding row plain_row.shell_row
    theirs_is =
        ap plain_row.in_shell
        (ap (λ (block : BlockId). plain_row.shell_row other block x) taken.0
        ∙ (ap (λ (b : ApiState). api_row b x) alike.parts.1.1.1 ∙ given_row given a x.body))

    -- which are alike
    client : ClientAlike start given x.body t (api_row a x)
    client =
        subst (λ (c : ClientState). ClientAlike start given x.body (client_row c x) (api_row a x)) (sym alike.parts.0)
        (client_alike start given a x shape alike.parts.1.0 alike.parts.1.1.0 comes taken.1)

    -- the replies are told, and both are alike behind that
    abbrev IsTold : ClientState → Type 0
    IsTold c =
        (with_api c (with_replies c.api []) ≡ calm_state (with_replies c.api []) start.shape.nodes None)
        × ((c.api.view ≡ first start)
        × (((with_replies c.api []).replies ≡ [])
        × (in_given given (api_row a x).state
        ≡ in_given (given ++ plain_replies c.api.replies) (with_replies c.api []))))

    behind : AreAlike start (given ++ plain_replies (replies_at 0 mine)) (told 0 mine) theirs.state
    behind = record {
      standing = alike.standing;
      parts = subst IsTold (sym client.state) (refl, (client.view, (refl, client.told)));
    }

    pub shell_alike : StepAlike start 0 given s (plain_host.Shell other) x
    shell_alike = record {
      marks =
          ap (λ (step : Step host.HostBody). step.effects.marks) mine_is
          ∙ (client.marks ∙ sym (ap (λ (step : Step plain.Host). step.effects.marks) theirs_is));
      sends =
          ap (λ (step : Step host.HostBody). step.effects.sends) mine_is
          ∙ (client.sends
          ∙ sym (ap (λ (step : Step plain.Host). step.effects.sends ++ besides start 0 x.body) theirs_is));
      plain =
          subst (λ (step : Step plain.Host). Each (IsPlainSend 0) step.effects.sends) (sym theirs_is) client.plain;
      goes_on = ap (λ (step : Step plain.Host). stops_by step.effects.marks) theirs_is ∙ client.goes_on;
      alike =
          subst₂ (λ (step : Step host.HostBody) (other_step : Step plain.Host).
          AreAlike start (given ++ plain_replies (replies_at 0 step)) (told 0 step) other_step.state)
          (sym mine_is) (sym theirs_is) behind;
    }

pub shells_step : ShellsStepAlike
shells_step start given s (plain_host.Shell other) x shape runs alike comes = by s.parts alike
  where
    by : (parts : Parts)
        → AreAlike start given (record { standing = s.standing; parts = parts }) (plain_host.Shell other)
        → StepAlike start 0 given (record { standing = s.standing; parts = parts }) (plain_host.Shell other) x
    by (Shell p) alike = shell_alike start given s.standing p other x shape comes alike
    by (Main p) alike = absurd alike.parts
    by (Tc p) alike = absurd alike.parts
    by (Ldm p) alike = absurd alike.parts
shells_step start given s (plain_host.Main m) x shape runs alike comes = absurd cc
shells_step start given s (plain_host.Tc p) x shape runs alike comes = absurd cc
shells_step start given s (plain_host.Ldm l) x shape runs alike comes = absurd cc
