-- What a host does at a signal.
use Rattle.sig_core.specs.declared.place.BlockId.{BlockId}
use Rattle.sig_core.specs.declared.place.BlockId.TheVariants as block
use Rattle.sig_core.specs.declared.signal.Signal.{Signal}
use Rattle.sig_core.specs.Step.{Step, stay}
use Rattle.api_block.specs.Api.{api_row}
use Rattle.api_block.specs.State.{ApiState}
use Rattle.lqh_block.specs.Lqh.{lqh_row}
use Rattle.lqh_block.specs.State.{LqhState}
use Rattle.tc_block.specs.State.{TcState}
use Rattle.tc_block.specs.Tc.{tc_row}
use Rattle.node_core.specs.declared.host.Host.{Host}
use Rattle.node_core.specs.declared.host.Host.TheVariants.{Shell, Main, Tc, Ldm}
use Rattle.node_core.specs.declared.tc_part.TcPart.{TcPart}
use Rattle.node_core.specs.Dih.{DihState, dih_row}

-- a step of the coordinator, or of the block of epochs, is one of their part
abbrev pub in_tc : TcPart → Step TcState → Step TcPart
in_tc p t = record { state = record { tc = t.state; dih = p.dih }; effects = t.effects }

abbrev pub in_dih : TcPart → Step DihState → Step TcPart
in_dih p t = record { state = record { tc = p.tc; dih = t.state }; effects = t.effects }

-- What each kind of host does: the block that the signal is for does what its row says. A block that the host doesn't
-- run
-- does nothing.
unfoldable pub shell_row : ApiState → BlockId → Signal → Step ApiState
shell_row s block.Api x = api_row s x
shell_row s _ x = stay s

unfoldable pub tc_part_row : TcPart → BlockId → Signal → Step TcPart
tc_part_row p block.Tc x = in_tc p (tc_row p.tc x)
tc_part_row p block.Dih x = in_dih p (dih_row p.dih x)
tc_part_row p _ x = stay p

unfoldable pub ldm_row : LqhState → BlockId → Signal → Step LqhState
ldm_row s block.Lqh x = lqh_row s x
ldm_row s _ x = stay s

-- a step of a host of its kind
abbrev pub in_shell : Step ApiState → Step Host
in_shell t = record { state = Shell t.state; effects = t.effects }

abbrev pub in_tc_part : Step TcPart → Step Host
in_tc_part t = record { state = Tc t.state; effects = t.effects }

abbrev pub in_ldm : Step LqhState → Step Host
in_ldm t = record { state = Ldm t.state; effects = t.effects }

-- what a host does at a signal
unfoldable pub row : Host → Signal → Step Host
row (Shell s) x = in_shell (shell_row s x.to.block x)
row (Main m) x = stay (Main m)
row (Tc p) x = in_tc_part (tc_part_row p x.to.block x)
row (Ldm s) x = in_ldm (ldm_row s x.to.block x)
