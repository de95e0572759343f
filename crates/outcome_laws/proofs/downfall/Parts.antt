-- Of the blocks of a host no coordinator aborts a transaction since the cluster is down, and none of them tells anyone
-- that one was aborted so, whatever signal they take that doesn't tell it.
use Rattle.std.proofs.Common.{ℕ}
use Rattle.run_theory.proofs.Pasts.{each_append}
use Rattle.sig_core.specs.declared.place.BlockId.{BlockId}
use Rattle.sig_core.specs.declared.place.BlockId.TheVariants as block
use Rattle.sig_core.specs.declared.signal.Signal.{Signal}
use Rattle.sig_core.specs.declared.view.View.{View}
use Rattle.sig_core.specs.Step.{Effects, Step}
use Rattle.arbiter_block.specs.Arbiter.{arbiter_row}
use Rattle.dih_node.specs.Orders as dih
use Rattle.gcp_master.specs.Master.{master_row}
use Rattle.qmgr_block.specs.Qmgr.{qmgr_installed, qmgr_row}
use Rattle.tc_views.specs.Views as coordinator
use Rattle.node_views.specs.Blocks.{parts_entered, parts_row}
use Rattle.node_views.specs.declared.host_body.HostBody as hosts
use Rattle.node_views.specs.declared.ldm_part.LdmPart.{LdmPart}
use Rattle.node_views.specs.declared.main_part.MainPart.{MainPart}
use Rattle.node_views.specs.declared.parts.Parts.{Parts}
use Rattle.node_views.specs.declared.parts.Parts.TheVariants.{Shell, Main, Tc, Ldm}
use Rattle.node_views.specs.declared.shell_part.ShellPart.{ShellPart}
use Rattle.node_views.specs.declared.tc_part.TcPart.{TcPart}
use Rattle.lqh_saver.specs.State.{saving}
use Rattle.node_views.specs.Parts.{ldm_row, main_row, shell_row, tc_row}
use Rattle.world_views.specs.Machine.{step_by}
use Rattle.outcome_laws.specs.Down.{CoordinatorHasNoDown, PartsHaveNoDown, TellsNoDown}
use Rattle.outcome_laws.proofs.rows.NeverDown.{rows_down_none}
use Rattle.outcome_laws.proofs.downfall.Sends.{AreNoDown, IsNoDown, SendsNoDown, silent_none_all}
use Rattle.outcome_laws.proofs.downfall.ClientAndEpochs.{client_down_none, epochs_down_none, epochs_install_down_none}
use Rattle.outcome_laws.proofs.coordinators.NeverDown.{coordinator_down_none, coordinator_installs_down_none}
use Rattle.outcome_laws.proofs.knowledge.MasterTellsNothing.{master_tells_nothing}
use Rattle.outcome_laws.proofs.knowledge.MembershipTellsNothing.{membership_installs_nothing, membership_tells_nothing}
use Rattle.outcome_laws.proofs.knowledge.TellsNothing.{TellsNothing, untold_silent}
use Rattle.outcome_laws.proofs.knowledge.Parts.{arbiter_tells_nothing}
use Rattle.outcome_laws.proofs.knowledge.HostSteps.{IsOfEffects, step_keeps}
use Rattle.outcome_laws.proofs.takeovers.SendUncounted.{takeover_down_none}

abbrev HasNoDown : Effects → Type 0
HasNoDown effects = AreNoDown effects.sends

effects_none : IsOfEffects HasNoDown
effects_none = record {
  none = tt;
  stops = λ cause. tt;
  installs = λ view. tt;
  cuts = λ first. tt;
  joins = λ one other first then. each_append IsNoDown one.sends other.sends first then;
  hushes = λ effects none. tt;
}

nothing_none : {S : Type 0} (step : Step S) → TellsNothing step → SendsNoDown step
nothing_none step nothing = silent_none_all step.effects.sends (untold_silent step.effects.sends nothing.0)

-- they stay so, and send nothing else
abbrev StayUp : Step Parts → Type 0
StayUp step = PartsHaveNoDown step.state × SendsNoDown step

module _ (x : Signal) where
  shell_up : (p : ShellPart) → StayUp (parts_row (Shell p) x)
  unfolding shell_row
  shell_up p = by x.to.block
    where
      by : (b : BlockId) → PartsHaveNoDown (Shell (shell_row p b x).state) × SendsNoDown (shell_row p b x)
      by block.Api = (tt, client_down_none p.client x)
      by block.Arbiter = (tt, nothing_none (arbiter_row p.arbiter x) (arbiter_tells_nothing p.arbiter x))
      by _ = (tt, tt)

  main_up : (p : MainPart) → StayUp (parts_row (Main p) x)
  unfolding main_row
  main_up p = by x.to.block
    where
      by : (b : BlockId) → PartsHaveNoDown (Main (main_row p b x).state) × SendsNoDown (main_row p b x)
      by block.Qmgr = (tt, nothing_none (qmgr_row p.qmgr x) (membership_tells_nothing p.qmgr x))
      by block.GcpMaster = (tt, nothing_none (master_row p.master x) (master_tells_nothing p.master x))
      by _ = (tt, tt)

  tc_up : (p : TcPart) → CoordinatorHasNoDown p.coordinator → TellsNoDown x.body → StayUp (parts_row (Tc p) x)
  unfolding tc_row
  tc_up p up told = by x.to.block
    where
      by : (b : BlockId) → PartsHaveNoDown (Tc (tc_row p b x).state) × SendsNoDown (tc_row p b x)
      by block.Tc = coordinator_down_none p.coordinator x up told
      by block.Takeover = (up, takeover_down_none p.takeover x)
      by block.Dih = (up, epochs_down_none p.dih x)
      by _ = (up, tt)

  ldm_up : (p : LdmPart) → StayUp (parts_row (Ldm p) x)
  unfolding ldm_row
  ldm_up p = by x.to.block
    where
      by : (b : BlockId) → PartsHaveNoDown (Ldm (ldm_row p b x).state) × SendsNoDown (ldm_row p b x)
      by block.Lqh = (tt, rows_down_none (saving p.replica p.saver) x)
      by _ = (tt, tt)

  row_up : TellsNoDown x.body → (parts : Parts) → PartsHaveNoDown parts → StayUp (parts_row parts x)
  row_up told (Shell p) up = shell_up p
  row_up told (Main p) up = main_up p
  row_up told (Tc p) up = tc_up p up told
  row_up told (Ldm p) up = ldm_up p

-- where a view is installed
entered_up : (parts : Parts) (view : View) → PartsHaveNoDown parts → StayUp (parts_entered parts view)
entered_up (Shell p) view up = (tt, tt)
entered_up (Main p) view up = (tt, nothing_none (qmgr_installed p.qmgr view) (membership_installs_nothing p.qmgr view))
entered_up (Tc p) view up =
    let then = coordinator_installs_down_none p.coordinator view up in (
      then.0,
      each_append IsNoDown (coordinator.install_row p.coordinator view).effects.sends
          (dih.install_row p.dih view.number).effects.sends then.1 (epochs_install_down_none p.dih view.number),
    )
entered_up (Ldm p) view up = (tt, tt)

-- so it is behind a step of the host
pub step_down_none : (h : ℕ) (s : hosts.HostBody) (x : Signal) → PartsHaveNoDown s.parts → TellsNoDown x.body
    → PartsHaveNoDown (step_by h s x).state.parts × SendsNoDown (step_by h s x)
step_down_none h s x up told =
    step_keeps PartsHaveNoDown HasNoDown effects_none x h s
    (λ sound. record { row = row_up x told; enters = entered_up }) up
