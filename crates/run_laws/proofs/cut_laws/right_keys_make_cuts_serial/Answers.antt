use Rattle.run_laws.proofs.history.Serial.{keys_serial}
use Rattle.run_laws.proofs.cut_laws.right_keys_make_cuts_serial.Goals as goal

pub returns : goal.returns
returns c = keys_serial
