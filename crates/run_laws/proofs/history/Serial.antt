-- The serial law of a closed cut, from what is left of it for each key.
use Rattle.std.proofs.Common.{sym, ◌∙◌}
use Rattle.serial_model.specs.Legal.{rows_of}
use Rattle.world_core.specs.History.{history}
use Rattle.world_core.specs.Hosts.{first_hosts}
use Rattle.run_laws.specs.Laws.{KeysMakeSerial}
use Rattle.run_laws.proofs.history.Epochs.{epochs_ordered, view_viable}
use Rattle.key_laws.proofs.KeysJoin.{keys_join, rows_join}
use Rattle.run_laws.proofs.history.StrictOrder.{histories_strict}

pub keys_serial : KeysMakeSerial
keys_serial start inside logs pos is keys = record {
  legal = keys_join (rows_of start.rows) (history (first_hosts start) inside) keys.right;
  strict = histories_strict start inside logs is;
  epochs = epochs_ordered start inside logs is;
  viable = view_viable start inside logs pos is;
  rows = λ key rest member live. keys.rows key rest member live
      ∙ sym (rows_join (rows_of start.rows) (history (first_hosts start) inside) key);
}
