-- A host doesn't look at epochs, where none of its blocks does.
use Rattle.std.proofs.Common.{◌≡◌, ℕ, refl, ap}
use Rattle.sig_core.specs.declared.place.BlockId.{BlockId}
use Rattle.sig_core.specs.declared.place.BlockId.TheVariants as block
use Rattle.sig_core.specs.declared.signal.Signal.{Signal}
use Rattle.api_block.specs.State.{ApiState}
use Rattle.lqh_block.specs.State.{LqhState}
use Rattle.node_core.specs.declared.host.Host.TheVariants.{Shell, Main, Tc, Ldm}
use Rattle.node_core.specs.declared.tc_part.TcPart.{TcPart}
use Rattle.node_core.specs.Row.{in_dih, in_ldm, in_shell, in_tc, in_tc_part, ldm_row, row, shell_row, tc_part_row}
use Rattle.level_laws.specs.Laws.{CoordinatorsAreLevel, HostsAreLevel, RowsAreLevel}
use Rattle.level_laws.specs.Levels.{api_at, lqh_at, signal_at, step_at, tc_part_at}
use Rattle.level_laws.proofs.ApiLevels.{clients_level}
use Rattle.level_laws.proofs.DihLevels.{epochs_level}

shell_level : (epoch : ℕ) (s : ApiState) (at : BlockId) (x : Signal)
    → shell_row (api_at epoch s) at (signal_at epoch x) ≡ step_at (api_at epoch) epoch (shell_row s at x)
unfolding shell_row
shell_level epoch s block.Api x = clients_level epoch s x
shell_level epoch s _ x = refl

module _ (coordinators : CoordinatorsAreLevel) (rows : RowsAreLevel) where
  tc_part_level : (epoch : ℕ) (p : TcPart) (at : BlockId) (x : Signal)
      → tc_part_row (tc_part_at epoch p) at (signal_at epoch x)
      ≡ step_at (tc_part_at epoch) epoch (tc_part_row p at x)
  unfolding tc_part_row
  tc_part_level epoch p block.Tc x = ap (in_tc (tc_part_at epoch p)) (coordinators epoch p.tc x)
  tc_part_level epoch p block.Dih x = ap (in_dih (tc_part_at epoch p)) (epochs_level epoch p.dih x)
  tc_part_level epoch p _ x = refl

  ldm_level : (epoch : ℕ) (s : LqhState) (at : BlockId) (x : Signal)
      → ldm_row (lqh_at epoch s) at (signal_at epoch x) ≡ step_at (lqh_at epoch) epoch (ldm_row s at x)
  unfolding ldm_row
  ldm_level epoch s block.Lqh x = rows epoch s x
  ldm_level epoch s _ x = refl

  pub hosts_level : HostsAreLevel
  unfolding row
  hosts_level epoch (Shell s) x = ap in_shell (shell_level epoch s x.to.block x)
  hosts_level epoch (Main m) x = refl
  hosts_level epoch (Tc p) x = ap in_tc_part (tc_part_level epoch p x.to.block x)
  hosts_level epoch (Ldm s) x = ap in_ldm (ldm_level epoch s x.to.block x)
