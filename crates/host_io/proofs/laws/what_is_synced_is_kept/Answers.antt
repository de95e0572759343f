use Rattle.host_io.proofs.StateLemmas.{synced_is_kept}
use Rattle.host_io.proofs.laws.what_is_synced_is_kept.Goals as goal

pub returns : goal.returns
returns c = synced_is_kept
