use Rattle.redo_log.proofs.StoredReplay.{stored_replayed}
use Rattle.redo_log.proofs.laws.stored_records_are_replayed.Goals as goal

pub returns : goal.returns
returns c = stored_replayed
