-- Hosts that run no membership order no takeover, and send no membership a signal to go on.
use Rattle.std.proofs.Common.{◌≡◌, List, refl, sym, subst}
use Rattle.sig_core.specs.declared.place.BlockId.{BlockId}
use Rattle.sig_core.specs.declared.place.BlockId.TheVariants as block
use Rattle.sig_core.specs.declared.signal.Signal.{Signal}
use Rattle.lqh_saver.specs.Saver.{saver_row}
use Rattle.lqh_saver.specs.State.{saving}
use Rattle.node_views.specs.declared.ldm_part.LdmPart.{LdmPart}
use Rattle.node_views.specs.declared.parts.Parts.{Parts}
use Rattle.node_views.specs.declared.parts.Parts.TheVariants as part
use Rattle.node_views.specs.Parts.{ldm_row}
use Rattle.world_core.specs.Start.{NobodyStarts, Start}
use Rattle.world_core.specs.Steps.{HostStep}
use Rattle.world_views.specs.Machine.{after, step_after}
use Rattle.moment_laws.specs.PartSteps.{ldm_kind, shell_kind, tc_kind}
use Rattle.moment_laws.proofs.PartKinds.{shell_after}
use Rattle.outcome_laws.proofs.once.DecidesAndReports.{IsShell}
use Rattle.request_laws.proofs.routes.PartSteps.{ldm_step, tc_step}
use Rattle.commit_laws.proofs.forth.KnownTold.{runs_shell}
use Rattle.commit_laws.proofs.orders.Aside.{shell_orders_none, tc_enters_order_none, tc_orders_none}
use Rattle.commit_laws.proofs.orders.Hosts.{coordinates, is_client, keeps_rows}
use Rattle.commit_laws.proofs.orders.Once.{OthersAreQuiet}
use Rattle.commit_laws.proofs.hosts.PartEach.{part_each}
use Rattle.commit_laws.proofs.orders.Rows.{rows_order_none}
use Rattle.commit_laws.proofs.orders.Words.{AreQuiet, IsQuiet, none_quiet}

ldm_quiet : (p : LdmPart) (b : BlockId) (x : Signal) → AreQuiet (ldm_row p b x).effects.sends
unfolding ldm_row
ldm_quiet p block.Lqh x =
    none_quiet (saver_row (saving p.replica p.saver) x).effects.sends (rows_order_none (saving p.replica p.saver) x)
ldm_quiet p _ x = tt

client_quiet : (start : Start) (nobody : NobodyStarts start) (log : List HostStep) (e : HostStep)
    → AreQuiet (step_after start 0 log e).effects.sends
client_quiet start nobody log e = by (after start 0 log).parts refl (runs_shell start log)
  where
    by : (parts : Parts) → (after start 0 log).parts ≡ parts → IsShell parts
        → AreQuiet (step_after start 0 log e).effects.sends
    by (part.Shell p) is shell =
        part_each shell_kind IsQuiet start.shape p _ e.step.taken _ _ (step_after start 0 log e).effects.sends
        (shell_after start nobody log e p is) (λ above. tt)
        (λ passed. none_quiet _ (shell_orders_none _ e.step.taken e.step.taken.to.block))
    by (part.Main p) is shell = absurd shell
    by (part.Tc p) is shell = absurd shell
    by (part.Ldm p) is shell = absurd shell

pub others_are_quiet : OthersAreQuiet
others_are_quiet start nobody h (is_client is) log e =
    subst (λ k. AreQuiet (step_after start k log e).effects.sends) (sym is) (client_quiet start nobody log e)
others_are_quiet start nobody h (coordinates me there at) log e =
    let step = tc_step start nobody me there h at log e in
    part_each tc_kind IsQuiet start.shape step.own _ e.step.taken _ _ (step_after start h log e).effects.sends step.does
    (λ above. tc_enters_order_none step.own e.step.taken.view)
    (λ passed. tc_orders_none step.does.between e.step.taken e.step.taken.to.block)
others_are_quiet start nobody h (keeps_rows me there at) log e =
    let step = ldm_step start nobody me there h at log e in
    part_each ldm_kind IsQuiet start.shape step.own _ e.step.taken _ _ (step_after start h log e).effects.sends
    step.does
    (λ above. tt) (λ passed. ldm_quiet step.does.between e.step.taken.to.block e.step.taken)
