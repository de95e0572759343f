-- Where nothing is doomed and nothing is left to do, a coordinator steps as it does within its view.
use Rattle.std.proofs.Common.{◌≡◌, ℕ, false, [], refl, sym, ap, ◌∙◌}
use Rattle.sig_core.specs.declared.signal.Body.{Body}
use Rattle.sig_core.specs.declared.signal.Body.TheVariants.{Client, Epoch, Host, Membership}
use Rattle.sig_core.specs.declared.signal.client.ClientSignal.TheVariants.{TcKeyReq, TcRollbackReq}
use Rattle.sig_core.specs.declared.signal.epoch.EpochSignal.TheVariants.{DiVerifyConf}
use Rattle.sig_core.specs.declared.signal.host.HostSignal.TheVariants.{Continue}
use Rattle.sig_core.specs.declared.signal.host.Work.TheVariants.{Installation, Transaction}
use Rattle.sig_core.specs.declared.signal.membership.MembershipSignal.TheVariants.{FenceReq}
use Rattle.sig_core.specs.Step.{Step}
use Rattle.tc_block.specs.Doom.{is_among}
use Rattle.tc_block.specs.State.{TcState}
use Rattle.tc_block.specs.Tc.{tc_table}
use Rattle.tc_views.specs.Coordinator.{calm_unless, coordinator_table, is_to_fail}
use Rattle.tc_views.specs.Laws.{CalmSteps, IsCalm, alone}
use Rattle.tc_views.specs.State.{CoordinatorState, still_live, within}

quiet : (s : CoordinatorState) (step : Step TcState) → s.doomed ≡ [] → within s step ≡ alone s step
unfolding within
quiet s step none =
    ap (λ doomed. record { state = record s { tc = step.state; doomed = doomed }; effects = step.effects })
    (ap (still_live step.state) none ∙ sym none)

calm_table : (s : CoordinatorState) (number : ℕ) (body : Body) → s.doomed ≡ [] → s.left ≡ []
    → IsCalm s.number number body
    → coordinator_table s number body ≡ alone s (tc_table s.tc body)
calm_table s number (Membership (FenceReq proposal)) none nothing calm = absurd calm
calm_table s number (Host (Continue Installation at)) none nothing calm = absurd calm
calm_table s number (Host (Continue (Transaction tx) at)) none nothing calm =
    ap (calm_unless s (Host (Continue (Transaction tx) at))) calm ∙ quiet s _ none
calm_table s number (Epoch (DiVerifyConf tx epoch)) none nothing calm =
    ap (λ doomed. calm_unless s (Epoch (DiVerifyConf tx epoch)) (is_among doomed tx)) none ∙ quiet s _ none
calm_table s number (Client (TcKeyReq tx op)) none nothing calm =
    ap (λ left. calm_unless s (Client (TcKeyReq tx op)) (is_to_fail left tx)) nothing ∙ quiet s _ none
calm_table s number (Client (TcRollbackReq tx)) none nothing calm =
    ap (λ left. calm_unless s (Client (TcRollbackReq tx)) (is_to_fail left tx)) nothing ∙ quiet s _ none
calm_table s number body none nothing calm = quiet s _ none

pub calm_steps : CalmSteps
calm_steps s x none nothing calm = calm_table s x.view.number x.body none nothing calm
