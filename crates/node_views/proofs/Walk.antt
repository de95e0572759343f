-- A step of the blocks of a host is one of its part's blocks or none, and so is an installation: what is so of each is
-- so of the whole. A block more is a field more.
use Rattle.std.proofs.Common.{◌≡◌, refl, subst}
use Rattle.sig_core.specs.declared.mark.Mark.{Mark}
use Rattle.sig_core.specs.declared.outs.Outgoing.{Outgoing}
use Rattle.sig_core.specs.declared.place.BlockId.{BlockId}
use Rattle.sig_core.specs.declared.place.BlockId.TheVariants as block
use Rattle.sig_core.specs.declared.signal.Signal.{Signal}
use Rattle.sig_core.specs.declared.view.View.{View}
use Rattle.sig_core.specs.Step.{Step, stay}
use Rattle.step_forms.specs.Does.{Does}
use Rattle.step_forms.proofs.DoesLemmas.{joined_have}
use Rattle.api_views.specs.Client.{client_row}
use Rattle.arbiter_block.specs.Arbiter.{arbiter_row}
use Rattle.dih_node.specs.Dih.{dih_row}
use Rattle.dih_node.specs.Orders as dih
use Rattle.gcp_master.specs.Master.{master_row}
use Rattle.lqh_saver.specs.Saver.{saver_row}
use Rattle.lqh_saver.specs.State.{saving}
use Rattle.lqh_saver.proofs.Walk.{SaverSends, saver_each}
use Rattle.lqh_views.specs.Replica.{replica_row}
use Rattle.qmgr_block.specs.Qmgr.{qmgr_installed, qmgr_row}
use Rattle.takeover_block.specs.Takeover.{takeover_row}
use Rattle.tc_views.specs.Coordinator.{coordinator_row}
use Rattle.tc_views.specs.Views as coordinator
use Rattle.node_views.specs.Blocks.{in_ldm, in_main, in_shell, in_tc, parts_entered, parts_row}
use Rattle.node_views.specs.declared.ldm_part.LdmPart.{LdmPart}
use Rattle.node_views.specs.declared.main_part.MainPart.{MainPart}
use Rattle.node_views.specs.declared.parts.Parts.{Parts}
use Rattle.node_views.specs.declared.parts.Parts.TheVariants.{Shell, Main, Tc, Ldm}
use Rattle.node_views.specs.declared.shell_part.ShellPart.{ShellPart}
use Rattle.node_views.specs.declared.tc_part.TcPart.{TcPart}
use Rattle.node_views.specs.Parts.{in_arbiter, in_client, in_coordinator, in_dih, in_master, in_qmgr, in_saving}
use Rattle.node_views.specs.Parts.{in_takeover, ldm_row, main_row, shell_row, tc_row}

-- R is of each step that the blocks may take at the signal: none, or that of the block that it is for
pub record PartsOutcomes (parts : Parts) (x : Signal) (R : Step Parts → Type 0) : Type 0 where
  pub stays : R (stay parts)
  pub client : (p : ShellPart) → parts ≡ Shell p → x.to.block ≡ block.Api
      → R (in_shell (in_client p (client_row p.client x)))
  pub arbiter : (p : ShellPart) → parts ≡ Shell p → x.to.block ≡ block.Arbiter
      → R (in_shell (in_arbiter p (arbiter_row p.arbiter x)))
  pub qmgr : (p : MainPart) → parts ≡ Main p → x.to.block ≡ block.Qmgr → R (in_main (in_qmgr p (qmgr_row p.qmgr x)))
  pub master : (p : MainPart) → parts ≡ Main p → x.to.block ≡ block.GcpMaster
      → R (in_main (in_master p (master_row p.master x)))
  pub coordinator : (p : TcPart) → parts ≡ Tc p → x.to.block ≡ block.Tc
      → R (in_tc (in_coordinator p (coordinator_row p.coordinator x)))
  pub takeover : (p : TcPart) → parts ≡ Tc p → x.to.block ≡ block.Takeover
      → R (in_tc (in_takeover p (takeover_row p.takeover x)))
  pub dih : (p : TcPart) → parts ≡ Tc p → x.to.block ≡ block.Dih → R (in_tc (in_dih p (dih_row p.dih x)))
  pub replica : (p : LdmPart) → parts ≡ Ldm p → x.to.block ≡ block.Lqh
      → R (in_ldm (in_saving p x.body (saver_row (saving p.replica p.saver) x)))

pub parts_outcomes : (parts : Parts) (x : Signal) (R : Step Parts → Type 0) → PartsOutcomes parts x R
    → R (parts_row parts x)
unfolding shell_row main_row tc_row ldm_row
parts_outcomes parts x R forms = by parts refl
  where
    none : (q : Parts) → parts ≡ q → R (stay q)
    none q is = subst (λ q. R (stay q)) is forms.stays

    shell : (p : ShellPart) → parts ≡ Shell p → (at : BlockId) → x.to.block ≡ at → R (in_shell (shell_row p at x))
    shell p is block.Api to = forms.client p is to
    shell p is block.Arbiter to = forms.arbiter p is to
    shell p is _ to = none (Shell p) is

    main : (p : MainPart) → parts ≡ Main p → (at : BlockId) → x.to.block ≡ at → R (in_main (main_row p at x))
    main p is block.Qmgr to = forms.qmgr p is to
    main p is block.GcpMaster to = forms.master p is to
    main p is _ to = none (Main p) is

    tc : (p : TcPart) → parts ≡ Tc p → (at : BlockId) → x.to.block ≡ at → R (in_tc (tc_row p at x))
    tc p is block.Tc to = forms.coordinator p is to
    tc p is block.Takeover to = forms.takeover p is to
    tc p is block.Dih to = forms.dih p is to
    tc p is _ to = none (Tc p) is

    ldm : (p : LdmPart) → parts ≡ Ldm p → (at : BlockId) → x.to.block ≡ at → R (in_ldm (ldm_row p at x))
    ldm p is block.Lqh to = forms.replica p is to
    ldm p is _ to = none (Ldm p) is

    by : (q : Parts) → parts ≡ q → R (parts_row q x)
    by (Shell p) is = shell p is x.to.block refl
    by (Main p) is = main p is x.to.block refl
    by (Tc p) is = tc p is x.to.block refl
    by (Ldm p) is = ldm p is x.to.block refl

module _ (P : Outgoing → Type 0) (M : Mark → Type 0) where
  -- P is of each signal, and M of each mark, of the block that takes the signal
  pub record PartsForms (parts : Parts) (x : Signal) : Type 0 where
    pub client : (p : ShellPart) → parts ≡ Shell p → x.to.block ≡ block.Api → Does P M (client_row p.client x)
    pub arbiter : (p : ShellPart) → parts ≡ Shell p → x.to.block ≡ block.Arbiter → Does P M (arbiter_row p.arbiter x)
    pub qmgr : (p : MainPart) → parts ≡ Main p → x.to.block ≡ block.Qmgr → Does P M (qmgr_row p.qmgr x)
    pub master : (p : MainPart) → parts ≡ Main p → x.to.block ≡ block.GcpMaster → Does P M (master_row p.master x)
    pub coordinator : (p : TcPart) → parts ≡ Tc p → x.to.block ≡ block.Tc
        → Does P M (coordinator_row p.coordinator x)
    pub takeover : (p : TcPart) → parts ≡ Tc p → x.to.block ≡ block.Takeover → Does P M (takeover_row p.takeover x)
    pub dih : (p : TcPart) → parts ≡ Tc p → x.to.block ≡ block.Dih → Does P M (dih_row p.dih x)
    pub replica : (p : LdmPart) → parts ≡ Ldm p → x.to.block ≡ block.Lqh → Does P M (replica_row p.replica x)
    pub saver : (p : LdmPart) → parts ≡ Ldm p → x.to.block ≡ block.Lqh → SaverSends (saving p.replica p.saver) x P

  pub parts_each : (parts : Parts) (x : Signal) → PartsForms parts x → Does P M (parts_row parts x)
  parts_each parts x forms =
      parts_outcomes parts x (λ step. Does P M step) (record {
        stays = (tt, tt);
        client = forms.client;
        arbiter = forms.arbiter;
        qmgr = forms.qmgr;
        master = forms.master;
        coordinator = forms.coordinator;
        takeover = forms.takeover;
        dih = forms.dih;
        replica = λ p is to.
            saver_each (saving p.replica p.saver) x P M (forms.replica p is to) (forms.saver p is to);
      })

  -- so of what they do as a view is installed: the membership, a coordinator and the epochs alone may send something
  pub record InstallForms (parts : Parts) (view : View) : Type 0 where
    pub qmgr : (p : MainPart) → parts ≡ Main p → Does P M (qmgr_installed p.qmgr view)
    pub coordinator : (p : TcPart) → parts ≡ Tc p → Does P M (coordinator.install_row p.coordinator view)
    pub dih : (p : TcPart) → parts ≡ Tc p → Does P M (dih.install_row p.dih view.number)

  pub parts_installed_each : (parts : Parts) (view : View) → InstallForms parts view
      → Does P M (parts_entered parts view)
  parts_installed_each parts view forms = by parts refl
    where
      by : (q : Parts) → parts ≡ q → Does P M (parts_entered q view)
      by (Shell p) is = (tt, tt)
      by (Main p) is = forms.qmgr p is
      by (Tc p) is =
          joined_have P M (coordinator.install_row p.coordinator view).effects
          (dih.install_row p.dih view.number).effects (forms.coordinator p is) (forms.dih p is)
      by (Ldm p) is = (tt, tt)
