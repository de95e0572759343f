-- A plain host doesn't look at epochs: where all of them are made one, in what it knows and in what it takes, so are
-- those in what it knows then, sends and marks, and nothing else is changed.
use Rattle.std.specs.Prelude.{◌≡◌, ℕ}
use Rattle.api_block.specs.Api.{api_row}
use Rattle.api_block.specs.State.{ApiState}
use Rattle.lqh_block.specs.Lqh.{lqh_row}
use Rattle.lqh_block.specs.State.{LqhState}
use Rattle.node_core.specs.declared.host.Host.{Host}
use Rattle.node_core.specs.Dih.{DihState, dih_row}
use Rattle.node_core.specs.Row.{row}
use Rattle.sig_core.specs.declared.signal.Signal.{Signal}
use Rattle.tc_block.specs.State.{TcState}
use Rattle.tc_block.specs.Tc.{tc_row}
use Rattle.level_laws.specs.Levels.{api_at, dih_at, host_at, lqh_at, signal_at, step_at, tc_at}

abbrev pub ClientsAreLevel : Type 0
ClientsAreLevel =
    (epoch : ℕ) (s : ApiState) (x : Signal)
    → api_row (api_at epoch s) (signal_at epoch x) ≡ step_at (api_at epoch) epoch (api_row s x)

abbrev pub CoordinatorsAreLevel : Type 0
CoordinatorsAreLevel =
    (epoch : ℕ) (s : TcState) (x : Signal)
    → tc_row (tc_at epoch s) (signal_at epoch x) ≡ step_at (tc_at epoch) epoch (tc_row s x)

abbrev pub EpochsAreLevel : Type 0
EpochsAreLevel =
    (epoch : ℕ) (s : DihState) (x : Signal)
    → dih_row (dih_at epoch s) (signal_at epoch x) ≡ step_at (dih_at epoch) epoch (dih_row s x)

abbrev pub RowsAreLevel : Type 0
RowsAreLevel =
    (epoch : ℕ) (s : LqhState) (x : Signal)
    → lqh_row (lqh_at epoch s) (signal_at epoch x) ≡ step_at (lqh_at epoch) epoch (lqh_row s x)

abbrev pub HostsAreLevel : Type 0
HostsAreLevel =
    (epoch : ℕ) (s : Host) (x : Signal)
    → row (host_at epoch s) (signal_at epoch x) ≡ step_at (host_at epoch) epoch (row s x)
