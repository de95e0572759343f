-- What the blocks of a part do at a signal, and where a view is installed.
use Rattle.std.specs.Prelude.{ℕ, if◌then◌else◌, nat_lt, Option, None}
use Rattle.sig_core.specs.declared.outcome.StopCause.{StopCause}
use Rattle.sig_core.specs.declared.place.BlockId.{BlockId}
use Rattle.sig_core.specs.declared.place.BlockId.TheVariants as block
use Rattle.sig_core.specs.declared.signal.Body.{Body}
use Rattle.sig_core.specs.declared.signal.Body.TheVariants.{Membership}
use Rattle.sig_core.specs.declared.signal.Signal.{Signal}
use Rattle.sig_core.specs.declared.signal.membership.MembershipSignal.TheVariants.{FenceReq}
use Rattle.sig_core.specs.declared.view.View.{View}
use Rattle.sig_core.specs.Step.{Step, joined, stay}
use Rattle.api_views.specs.Client.{client_row}
use Rattle.api_views.specs.Members.{noted}
use Rattle.api_views.specs.State.{ClientState}
use Rattle.arbiter_block.specs.Arbiter.{ArbiterState, arbiter_row}
use Rattle.dih_node.specs.Dih.{dih_row}
use Rattle.dih_node.specs.Orders as dih
use Rattle.dih_node.specs.State.{DihState}
use Rattle.gcp_master.specs.Master.{master_row}
use Rattle.gcp_master.specs.Resume as master
use Rattle.gcp_master.specs.Spent.{master_stops}
use Rattle.gcp_master.specs.State.{MasterState}
use Rattle.lqh_saver.specs.Saver.{saver_installed, saver_row}
use Rattle.lqh_saver.specs.State.{SavingState, saving}
use Rattle.qmgr_block.specs.Qmgr.{qmgr_installed, qmgr_row}
use Rattle.qmgr_block.specs.Settle.{qmgr_settles}
use Rattle.qmgr_block.specs.State.{QmgrState}
use Rattle.qmgr_block.specs.Stop.{qmgr_stops}
use Rattle.takeover_block.specs.State as takeover
use Rattle.takeover_block.specs.State.{TakeoverState}
use Rattle.takeover_block.specs.Takeover.{takeover_row}
use Rattle.tc_views.specs.Coordinator.{coordinator_row}
use Rattle.tc_views.specs.State.{CoordinatorState}
use Rattle.tc_views.specs.Views as coordinator
use Rattle.node_views.specs.declared.ldm_part.LdmPart.{LdmPart}
use Rattle.node_views.specs.declared.main_part.MainPart.{MainPart}
use Rattle.node_views.specs.declared.shell_part.ShellPart.{ShellPart}
use Rattle.node_views.specs.declared.tc_part.TcPart.{TcPart}

-- a step of a block is one of its part
abbrev pub in_client : ShellPart → Step ClientState → Step ShellPart
in_client p t = record { state = record { client = t.state; arbiter = p.arbiter }; effects = t.effects }

abbrev pub in_arbiter : ShellPart → Step ArbiterState → Step ShellPart
in_arbiter p t = record { state = record { client = p.client; arbiter = t.state }; effects = t.effects }

abbrev pub in_qmgr : MainPart → Step QmgrState → Step MainPart
in_qmgr p t = record { state = record { qmgr = t.state; master = p.master }; effects = t.effects }

abbrev pub in_master : MainPart → Step MasterState → Step MainPart
in_master p t = record { state = record { qmgr = p.qmgr; master = t.state }; effects = t.effects }

abbrev pub in_coordinator : TcPart → Step CoordinatorState → Step TcPart
in_coordinator p t =
    record { state = record { coordinator = t.state; takeover = p.takeover; dih = p.dih }; effects = t.effects }

abbrev pub in_takeover : TcPart → Step TakeoverState → Step TcPart
in_takeover p t =
    record { state = record { coordinator = p.coordinator; takeover = t.state; dih = p.dih }; effects = t.effects }

abbrev pub in_dih : TcPart → Step DihState → Step TcPart
in_dih p t =
    record { state = record { coordinator = p.coordinator; takeover = p.takeover; dih = t.state }; effects = t.effects }

-- What each part does: the block that the signal is for does what its row says. A block that the part doesn't run does
-- nothing.
unfoldable pub shell_row : ShellPart → BlockId → Signal → Step ShellPart
shell_row p block.Api x = in_client p (client_row p.client x)
shell_row p block.Arbiter x = in_arbiter p (arbiter_row p.arbiter x)
shell_row p _ x = stay p

unfoldable pub main_row : MainPart → BlockId → Signal → Step MainPart
main_row p block.Qmgr x = in_qmgr p (qmgr_row p.qmgr x)
main_row p block.GcpMaster x = in_master p (master_row p.master x)
main_row p _ x = stay p

-- the view that the membership settles on at a signal
abbrev pub main_settled : MainPart → BlockId → Signal → Option View
main_settled p block.Qmgr x = qmgr_settles p.qmgr x
main_settled p _ x = None

-- why the part has its host stop at a signal
abbrev pub main_stops : MainPart → BlockId → Signal → Option StopCause
main_stops p block.Qmgr x = qmgr_stops x
main_stops p block.GcpMaster x = master_stops p.master x
main_stops p _ x = None

unfoldable pub tc_row : TcPart → BlockId → Signal → Step TcPart
tc_row p block.Tc x = in_coordinator p (coordinator_row p.coordinator x)
tc_row p block.Takeover x = in_takeover p (takeover_row p.takeover x)
tc_row p block.Dih x = in_dih p (dih_row p.dih x)
tc_row p _ x = stay p

-- a fence at the greater number
abbrev pub greater : ℕ → ℕ → ℕ
greater fence number = if nat_lt fence number then number else fence

-- a promise raises the fence of the rows
abbrev pub raised : ℕ → Body → ℕ
raised fence (Membership (FenceReq proposal)) = greater fence proposal.number
raised fence _ = fence

-- the rows with their saver, and the fence
abbrev pub ldm_with : SavingState → ℕ → LdmPart
ldm_with s fence = record { replica = s.replica; saver = s.saver; fence = fence }

abbrev pub in_saving : LdmPart → Body → Step SavingState → Step LdmPart
in_saving p body t = record { state = ldm_with t.state (raised p.fence body); effects = t.effects }

unfoldable pub ldm_row : LdmPart → BlockId → Signal → Step LdmPart
ldm_row p block.Lqh x = in_saving p x.body (saver_row (saving p.replica p.saver) x)
ldm_row p _ x = stay p

-- A view is installed in each block of a part.
abbrev pub shell_entered : ShellPart → View → Step ShellPart
shell_entered p view = stay (record { client = noted p.client view; arbiter = p.arbiter })

abbrev pub main_entered : MainPart → View → Step MainPart
main_entered p view =
    record {
      state = record { qmgr = (qmgr_installed p.qmgr view).state; master = master.in_view p.master view };
      effects = (qmgr_installed p.qmgr view).effects;
    }

abbrev pub tc_entered : TcPart → View → Step TcPart
tc_entered p view =
    record {
      state = record {
        coordinator = (coordinator.install_row p.coordinator view).state;
        takeover = takeover.in_view p.takeover view;
        dih = (dih.install_row p.dih view.number).state;
      };
      effects = joined (coordinator.install_row p.coordinator view).effects (dih.install_row p.dih view.number).effects;
    }

abbrev pub ldm_entered : LdmPart → View → Step LdmPart
ldm_entered p view = stay (ldm_with (saver_installed (saving p.replica p.saver) view) (greater p.fence view.number))
