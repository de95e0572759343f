-- What a transaction waits for, and markers of commits.
use Rattle.std.specs.Prelude.{ℕ, Bool, not, List, filter, Option, None, Some}
use Rattle.sig_core.specs.declared.member.TxId.{TxId}
use Rattle.sig_core.specs.declared.signal.Body.TheVariants.{Client}
use Rattle.sig_core.specs.declared.signal.client.ClientSignal.TheVariants.{LqhWaitConf}
use Rattle.sig_core.specs.Place.{coordinator_of}
use Rattle.sig_core.specs.Same.{same_tx}
use Rattle.sig_core.specs.Step.{Step, sending, stay}
use Rattle.row_locks.specs.Tables.{ahead_at}
use Rattle.lqh_block.specs.declared.request.Marker.{Marker}
use Rattle.lqh_block.specs.State.{LqhState, with_markers}

abbrev pub wait_by : LqhState → TxId → Option TxId → Step LqhState
wait_by s tx None = stay s
wait_by s tx (Some ahead) = sending s (coordinator_of tx) (Client (LqhWaitConf tx ahead))

-- the coordinator asks what its transaction waits for
unfoldable pub wait_row : LqhState → TxId → List ℕ → Step LqhState
wait_row s tx key = wait_by s tx (ahead_at s.locks key tx)

-- the marker isn't the transaction's
abbrev pub is_other : TxId → Marker → Bool
is_other tx m = not (same_tx m.tx tx)

-- the client has heard of the transaction's commit
unfoldable pub acknowledged : LqhState → TxId → LqhState
acknowledged s tx = with_markers s (filter (is_other tx) s.markers)
