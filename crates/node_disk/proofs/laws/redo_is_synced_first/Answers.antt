use Rattle.node_disk.proofs.SyncedLemmas.{synced_first}
use Rattle.node_disk.proofs.laws.redo_is_synced_first.Goals as goal

pub returns : goal.returns
returns c = synced_first
