use Rattle.redo_log.proofs.PieceLemmas.{synced_stay}
use Rattle.redo_log.proofs.laws.synced_bytes_stay.Goals as goal

pub returns : goal.returns
returns c = synced_stay
